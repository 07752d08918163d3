-- What the contracts of the uses speak of.
pub mod Bounded
pub mod Colouring
pub mod Incremental
pub mod MinimalCore
pub mod Transitions
pub mod Unrolled
