mod Examples
mod IndexMaps
mod Renaming
pub mod LiveValues
pub mod Renumbering
pub mod Runs
pub mod Slots
