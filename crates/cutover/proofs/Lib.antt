pub mod Days
pub mod Theorems
