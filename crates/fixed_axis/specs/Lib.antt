pub mod Fixed
pub mod Demands
pub mod Closed
