-- What a run answers of what its command line asks for, and how it ends.
pub mod Asked
pub mod Plans
pub mod Runs
pub mod Statuses
pub mod Texts
