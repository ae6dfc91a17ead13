pub mod Steps
pub mod Multiples
