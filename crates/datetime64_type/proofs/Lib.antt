pub mod Identifiers
pub mod Texts
pub mod Parts
