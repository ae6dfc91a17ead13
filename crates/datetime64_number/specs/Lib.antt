pub mod Numbers
pub mod Conversions
