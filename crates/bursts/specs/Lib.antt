pub mod Limits
pub mod Ranges
pub mod Made
pub mod Plan
