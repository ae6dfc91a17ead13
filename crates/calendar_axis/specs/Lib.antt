pub mod Steps
pub mod Start
