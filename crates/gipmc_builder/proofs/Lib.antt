pub mod Built
mod Differences
mod Examples
mod Gates
mod Latched
pub mod Machines
pub mod Numbers
mod Shifts
pub mod Steps
