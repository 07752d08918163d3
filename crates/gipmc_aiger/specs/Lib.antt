-- Circuits, their witnesses and their invariants as texts.
pub mod Lists
pub mod Reading
pub mod Tails
pub mod Circuits
pub mod LiveCircuits
pub mod CircuitTexts
pub mod Writable
pub mod LiveTexts
pub mod Sharing
pub mod WitnessCircuits
pub mod Witnesses
pub mod Traces
pub mod Claims
pub mod Invariants
pub mod Defects
pub mod Prelude
