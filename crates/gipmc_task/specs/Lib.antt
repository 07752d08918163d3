-- What is answered about a circuit.
pub mod Answers
pub mod Certificates
pub mod Joins
pub mod Justice
pub mod Kinds
pub mod Left
pub mod Outcomes
pub mod Output
pub mod Verdicts
pub mod Witnesses
