pub mod Basics
pub mod Earliest
pub mod Clear
pub mod Soundness
pub mod Fitness
