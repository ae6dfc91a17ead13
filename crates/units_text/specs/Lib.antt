pub mod UnitsRule
pub mod Answers
