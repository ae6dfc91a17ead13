pub mod Order
pub mod Plain
pub mod Cutover
pub mod Calendar
pub mod Answers
pub mod Closed
