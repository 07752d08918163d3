-- What the contracts of the heap speak of. Stands, Table and Tree are the heap's own.
pub mod Extended
pub mod Laws
pub mod Priorities
pub mod Record
pub mod Stands
pub use Rattle.giputils_bounded.specs.Bounded
pub use Rattle.giputils_bounded.specs.Bounds
pub use Rattle.giputils_bounded.specs.Calls
pub use Rattle.giputils_bounded.specs.Comparers
pub use Rattle.giputils_bounded.specs.Counted
pub use Rattle.giputils_bounded.specs.Falls
pub use Rattle.giputils_bounded.specs.InOrder
pub use Rattle.giputils_bounded.specs.Keys
pub use Rattle.giputils_bounded.specs.Relations
pub use Rattle.giputils_bounded.specs.Table
pub use Rattle.giputils_bounded.specs.Tree
