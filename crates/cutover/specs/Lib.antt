pub mod Calendars
pub mod Closed
