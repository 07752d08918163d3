pub mod CallBounds
pub mod ComparerOrders
pub mod Lent
pub mod Orders
pub mod Priorities
pub mod Pushes
pub mod Ranks
pub mod Repairs
pub mod Steady
mod Examples
mod Extended
mod Records
mod Runs
mod Steps
pub use Rattle.giputils_bounded.proofs.Falling
pub use Rattle.giputils_bounded.proofs.Greatest
pub use Rattle.giputils_bounded.proofs.HoldAlike
pub use Rattle.giputils_bounded.proofs.KeySets
pub use Rattle.giputils_bounded.proofs.Levels
pub use Rattle.giputils_bounded.proofs.OrderLaws
pub use Rattle.giputils_bounded.proofs.Preorders
pub use Rattle.giputils_bounded.proofs.Relations
