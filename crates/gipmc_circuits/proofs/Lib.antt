pub mod Accepted
pub mod Agreeing
pub mod Certified
mod Defined
mod Ends
mod Examples
mod Implied
pub mod Encoded
pub mod Rows
pub mod Runs
pub mod Traces
pub mod Unrolled
pub mod Valuations
pub mod Widened
pub mod Together
mod Simulated
