mod ClaimLoops
mod Examples
mod Fronts
mod HeaderLines
pub mod PackedRereads
mod LiveOrders
mod Refusals
pub mod Rereads
mod RowLoops
mod Shared
mod Stacks
mod Tables
pub mod WitnessRereads
mod Words
pub mod Writable
pub mod Written
