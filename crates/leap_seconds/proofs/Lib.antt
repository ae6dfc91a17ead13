pub mod Testing
pub mod Listed
pub mod OnDays
pub mod Moments
