mod Examples
pub mod Vectors
