pub mod InTurn
pub mod Refused
pub mod Refusing
