pub mod Reciprocal
pub mod Places
