-- The lemmas of the gathered crates that callers may cite. Where two crates have a file of one name, it says whose it is.
pub use Rattle.giputils_index.proofs.LiveValues
pub use Rattle.giputils_hash.proofs.MapWrites
pub use Rattle.giputils_hash.proofs.Members
pub use Rattle.giputils_index.proofs.Renumbering
pub use Rattle.giputils_index.proofs.Runs
pub use Rattle.giputils_index.proofs.Slots
pub use Rattle.giputils_vec.proofs.Vectors
pub use Rattle.giputils_bits.proofs.BinaryTexts
pub use Rattle.giputils_bits.proofs.Digits as BitDigits
pub use Rattle.giputils_bits.proofs.Literals
pub use Rattle.giputils_bits.proofs.Logic
pub use Rattle.giputils_bits.proofs.Ones
pub use Rattle.giputils_bits.proofs.Rows
pub use Rattle.giputils_bits.proofs.Sets
pub use Rattle.giputils_bits.proofs.Tables
pub use Rattle.giputils_bits.proofs.Taken
pub use Rattle.giputils_bits.proofs.TruePlaces
pub use Rattle.giputils_bits.proofs.Walks
pub use Rattle.giputils_bits.proofs.Words
pub use Rattle.giputils_bits.proofs.Runs as BitRuns
pub use Rattle.giputils_heap.proofs.CallBounds
pub use Rattle.giputils_heap.proofs.ComparerOrders
pub use Rattle.giputils_bounded.proofs.BoolsAndLists
pub use Rattle.giputils_bounded.proofs.Falling
pub use Rattle.giputils_bounded.proofs.Greatest
pub use Rattle.giputils_bounded.proofs.HoldAlike
pub use Rattle.giputils_bounded.proofs.KeySets
pub use Rattle.giputils_heap.proofs.Lent
pub use Rattle.giputils_bounded.proofs.Levels
pub use Rattle.giputils_bounded.proofs.OrderLaws
pub use Rattle.giputils_heap.proofs.Orders
pub use Rattle.giputils_bounded.proofs.Preorders
pub use Rattle.giputils_heap.proofs.Priorities
pub use Rattle.giputils_heap.proofs.Pushes
pub use Rattle.giputils_heap.proofs.Ranks
pub use Rattle.giputils_bounded.proofs.Relations
pub use Rattle.giputils_bounded.proofs.Renewals
pub use Rattle.giputils_heap.proofs.Repairs
pub use Rattle.giputils_heap.proofs.Steady
pub use Rattle.giputils_stat.proofs.Digits as DecimalDigits
pub use Rattle.giputils_stat.proofs.Rounding
