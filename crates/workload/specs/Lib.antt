pub mod Draws
pub mod Messages
pub mod Turns
pub mod Workload
