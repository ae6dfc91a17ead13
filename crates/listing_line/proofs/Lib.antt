pub mod Parts
pub mod Answers
pub mod Rooms
pub mod Instants
pub mod Theorems
