pub mod Texts
pub mod Words
pub mod Steps
