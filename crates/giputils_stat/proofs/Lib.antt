pub mod Rounding
pub mod Digits
mod Decimals
mod Texts
mod Sums
mod Examples
