pub mod Answered
pub mod Models
pub mod Searched
pub mod Watched
