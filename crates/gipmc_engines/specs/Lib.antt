-- What engines find out about a circuit.
pub mod Findings
pub mod Liveness
pub mod Verdicts
