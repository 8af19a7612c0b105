pub mod Bounds
pub mod Effects
pub mod Jumps
pub mod Searches
pub mod Steps
