pub mod Grammar
pub mod Reader
pub mod Clear
pub mod Rules
pub mod Answers
