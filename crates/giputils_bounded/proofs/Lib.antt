pub mod BoolsAndLists
pub mod Falling
pub mod Greatest
pub mod HoldAlike
pub mod KeySets
pub mod Levels
pub mod OrderLaws
pub mod Preorders
pub mod Relations
pub mod Renewals
mod AtPlaces
mod DrainCounts
mod Entries
mod InOrder
mod Places
mod Rearranged
mod Retained
mod Trees
mod WayDown
mod WayUp
