mod Examples
mod LastValues
pub mod MapWrites
pub mod Members
