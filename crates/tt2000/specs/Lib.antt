pub mod Tt2000
pub mod Order
pub mod Closed
