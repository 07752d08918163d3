-- What is shown of a trace.
pub mod Rows
