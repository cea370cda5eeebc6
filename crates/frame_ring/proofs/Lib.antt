pub mod Written
pub mod Waiting
