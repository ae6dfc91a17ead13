pub mod DateRule
pub mod Answers
