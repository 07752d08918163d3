pub mod Places
pub mod LiteralLemmas
pub mod Formulas
pub mod MakesTrue
pub mod Cores
pub mod Follows
pub mod Simplifying
pub mod Encodings
mod LayoutLemmas
mod Swaps
pub mod Tests
pub mod Retaining
mod Counting
mod Examples
mod EncodingExamples
