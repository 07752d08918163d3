pub mod Circuit
pub mod Encoding
pub mod Certificate
pub mod Traces
pub mod WellFormed
pub mod WitnessCircuits
pub mod Widened
pub mod Prelude
