pub mod Columns
pub mod Rounding
pub mod Steps
