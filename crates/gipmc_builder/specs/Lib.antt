pub mod Build
pub mod Machine
