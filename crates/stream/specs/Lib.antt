pub mod Told
pub mod Stands
pub mod Cuts
