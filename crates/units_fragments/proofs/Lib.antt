pub mod Laws
pub mod Concatenation
