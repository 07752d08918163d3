pub mod AreRight
pub mod Depths
mod Examples
mod LivenessExamples
