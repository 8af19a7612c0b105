pub mod Table
pub mod Keeping
