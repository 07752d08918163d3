-- Scripts: their lines, the replies, and the steps of a heap that give them.
pub mod Lines
pub mod Replies
pub mod Steps
