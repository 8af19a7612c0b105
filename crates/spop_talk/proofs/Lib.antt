pub mod Messages
pub mod Acks
