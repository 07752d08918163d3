pub mod Marks
pub mod Kernel
pub mod Occurrences
pub mod Rat
