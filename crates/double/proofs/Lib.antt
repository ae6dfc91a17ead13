pub mod Distance
pub mod Order
pub mod Examples
pub mod Scaling
pub mod Significand
pub mod Bits
pub mod WholeSize
pub mod Values
