pub mod Outcome
pub mod Trace
pub mod Stands
pub mod Heard
pub mod Calls
pub mod Between
