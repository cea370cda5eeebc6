pub mod Limits
pub mod Lawful
pub mod Refusals
