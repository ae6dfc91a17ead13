pub mod Instant
pub mod Order
pub mod Closed
