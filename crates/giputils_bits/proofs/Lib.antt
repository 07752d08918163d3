mod Appended
pub mod BinaryTexts
mod Conjoined
pub mod Digits
mod Errors
mod Examples
mod FalsePlaces
mod Gathered
mod Highest
mod Kept
pub mod Literals
pub mod Logic
mod Lowest
pub mod Ones
mod OnesLeft
mod Ordered
mod Overlaid
mod Parsed
mod Patterns
mod Places
mod Ranged
mod Replies
mod Rewritten
pub mod Rows
mod RunExamples
pub mod Runs
mod SameWords
pub mod Sets
mod Shifted
pub mod Tables
pub mod Taken
mod Text
pub mod TruePlaces
pub mod Walks
pub mod Words
mod Writes
mod Written
mod ZeroWords
