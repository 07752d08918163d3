-- What the contracts of the uses speak of.
pub mod Activity
pub mod Clock
pub mod Compaction
pub mod Counts
pub mod Drained
pub mod Learned
pub mod Paths
pub mod Primes
pub mod Ranked
pub mod Reachable
pub mod Rows
pub mod SmallSet
pub mod Worklist
