mod ByInduction
mod Claimed
pub mod Claims
mod Depths
pub mod Each
mod Examples
mod ForAll
mod JusticeExamples
mod JusticeTold
pub mod Once
mod OnWhole
pub mod Outcomes
mod Shown
mod Told
pub mod Widths
pub mod Witnessed
mod Words
pub mod Written
