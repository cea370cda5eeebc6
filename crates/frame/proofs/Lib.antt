pub mod Numbers
pub mod FlagBits
pub mod Places
pub mod Back
pub mod Sound
