mod Assuming
pub mod Below
mod CubesRead
mod DecimalLemmas
mod Enumerating
mod Examples
mod ProofExamples
mod Questioning
mod Renaming
mod Replying
mod ValueLines
