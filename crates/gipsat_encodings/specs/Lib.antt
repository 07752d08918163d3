pub mod Extending
pub mod Counts
pub mod Gates
pub mod Outputs
