pub mod Leaps
pub mod Utc
pub mod Closed
