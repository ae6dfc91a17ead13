pub mod Scale
pub mod Nearest
pub mod Displacement
pub mod Whole
pub mod Fields
