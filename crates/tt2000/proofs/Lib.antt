pub mod Numbers
pub mod LeapDates
pub mod Writing
pub mod Clock
pub mod Times
pub mod Answered
pub mod Theorems
