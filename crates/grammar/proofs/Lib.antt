pub mod Tests
pub mod Classes
pub mod Reading
pub mod Places
pub mod Numerals
pub mod Steps
pub mod Same
pub mod Answers
