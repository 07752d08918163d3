-- Parts that readers and writers of texts share.
pub mod Lines
pub mod Numbers
pub mod Groups
