-- What the words of a command line ask for.
pub mod Misuses
pub mod Options
pub mod Words
