mod Answered
mod Examples
mod Joined
mod Problems
