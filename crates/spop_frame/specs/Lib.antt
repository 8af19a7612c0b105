pub mod Frame
pub mod Head
pub mod Held
pub mod Header
pub mod Lent
pub mod Reading
pub mod Writing
