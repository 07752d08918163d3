-- What the contracts of the uses speak of.
pub mod Arbiter
pub mod Confirm
pub mod Counter
pub mod Lights
pub mod Throughout
