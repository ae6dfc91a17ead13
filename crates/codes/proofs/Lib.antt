pub mod Unknown
pub mod Back
