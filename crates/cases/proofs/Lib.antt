pub mod Known
pub mod Days
pub mod Answers
pub mod Cases
