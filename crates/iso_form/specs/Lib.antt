pub mod Form
pub mod Closed
