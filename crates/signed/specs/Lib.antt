pub mod Bias
pub mod Sign
