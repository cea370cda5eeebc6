pub mod Page
pub mod Digits
pub mod Line
