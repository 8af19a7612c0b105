pub mod Reading
pub mod Varint
pub mod Writing
