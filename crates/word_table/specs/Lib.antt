pub mod Table
pub mod Packed
