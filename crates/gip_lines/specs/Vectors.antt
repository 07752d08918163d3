-- Lines of bits, and the replies to them.
pub mod Lines
pub mod Replies
