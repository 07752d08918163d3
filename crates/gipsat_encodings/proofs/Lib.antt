mod AllPairs
mod GateMeanings
pub mod Agreeing
pub mod Extending
mod Leaving
pub mod Counting
mod Reaching
mod Rows
mod Summing
mod Parities
mod Parts
mod Bounds
mod Examples
