pub mod Lengths
pub mod Zero
pub mod Reading
