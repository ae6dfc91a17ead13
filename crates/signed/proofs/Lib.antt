pub mod Tests
pub mod Order
pub mod Differences
pub mod Lexicographic
pub mod Integers
pub mod Machine
pub mod Signs
