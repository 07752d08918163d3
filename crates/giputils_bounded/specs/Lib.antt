-- What the contracts of the heap speak of. Table and Tree are the heap's own.
pub mod Bounded
pub mod Bounds
pub mod Calls
pub mod Comparers
pub mod Counted
pub mod Falls
pub mod InOrder
pub mod Keys
pub mod Relations
pub mod Table
pub mod Tree
pub mod Prelude
