pub mod Steps
pub mod Answers
pub mod Closed
