pub mod Files
pub mod Misuses
pub mod Options
pub mod Statuses
pub mod Words
