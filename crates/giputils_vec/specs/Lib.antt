pub mod Gvec
pub mod Lends
pub mod Others
