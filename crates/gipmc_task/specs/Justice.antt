-- Justice properties.
pub mod Answers
