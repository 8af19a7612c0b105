pub mod Found
pub mod State
pub mod Step
pub mod Acted
pub mod Promised
