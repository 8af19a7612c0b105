pub mod Items
pub mod Client
pub mod Terms
pub mod Frames
