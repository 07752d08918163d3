pub mod Bits
pub mod Galloc
