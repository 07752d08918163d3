pub mod Allocator
pub mod AllocatorRun
pub mod LendsValue
pub mod Room
pub use Rattle.giputils_hash.specs.Hash
