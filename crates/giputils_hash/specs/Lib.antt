pub mod Hash
pub mod LendsHashed
