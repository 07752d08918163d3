pub mod Counted
mod Equalities
mod Examples
mod Judged
mod Lists
mod LivenessExamples
pub mod Looped
mod Pigeons
mod Replayed
pub mod Rounds
pub mod SafelyMade
pub mod Saved
mod Savers
mod Stages
mod Stilled
pub mod ThroughMerges
pub mod ThroughNames
