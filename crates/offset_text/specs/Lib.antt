pub mod OffsetRule
pub mod Closed
