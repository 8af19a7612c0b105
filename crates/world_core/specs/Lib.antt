pub mod World
pub mod Acts
pub mod Begun
pub mod Steps
pub mod Promised
pub mod Standing
pub mod Serving
pub mod Slowly
