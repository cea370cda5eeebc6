mod Kept
mod Wholes
