pub mod Steps
pub mod Joined
pub mod Playable
pub mod Sizes
