pub mod Steps
pub mod Loop
pub mod Blocks
pub mod Rest
