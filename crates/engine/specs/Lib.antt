pub mod Engines
pub mod Answers
pub mod Runs
