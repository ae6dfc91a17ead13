pub mod Closest
pub mod Products
pub mod Columns
pub mod HighShift
