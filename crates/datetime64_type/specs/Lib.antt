pub mod Units
pub mod Identifier
pub mod Closed
