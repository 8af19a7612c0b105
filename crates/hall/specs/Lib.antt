pub mod Passes
pub mod Claims
pub mod Parts
