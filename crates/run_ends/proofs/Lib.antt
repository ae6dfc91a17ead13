pub mod Pass
pub mod Within
pub mod Between
