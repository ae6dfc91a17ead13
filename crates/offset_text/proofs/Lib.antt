pub mod Digits
pub mod Rule
pub mod Texts
pub mod Signs
