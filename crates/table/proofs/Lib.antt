mod Slots
mod Moves
mod Seeking
pub mod Following
mod Operations
mod Firing
