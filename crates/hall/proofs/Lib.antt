pub mod Places
pub mod Histories
pub mod Turns
pub mod Splitting
pub mod Joining
pub mod Opened
