mod AsciiDigits
mod Examples
mod GroupLemmas
pub mod NumberLemmas
pub mod Pieces
