pub mod Fault
pub mod Input
pub mod Scripts
pub mod Task
pub mod Texts
pub mod Vectors
pub mod Watch
