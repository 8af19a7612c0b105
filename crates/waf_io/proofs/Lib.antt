pub mod Adds
pub mod Unused
