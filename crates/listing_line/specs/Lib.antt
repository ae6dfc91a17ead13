pub mod Line
pub mod Closed
