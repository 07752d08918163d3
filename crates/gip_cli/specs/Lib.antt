pub mod Asked
pub mod Items
pub mod Options
pub mod Statuses
