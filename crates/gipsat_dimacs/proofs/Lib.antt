mod ErrorLemmas
mod Examples
mod LineLemmas
mod ParserLemmas
mod ReaderLemmas
mod SplitLemmas
pub mod Problems
