pub mod Axis
pub mod Demands
pub mod MovedBack
