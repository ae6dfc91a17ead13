pub mod Each
pub mod Ends
