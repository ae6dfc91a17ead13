pub mod Days
pub mod Clock
pub mod Theorems
pub mod Range
