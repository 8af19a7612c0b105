pub mod Turns
pub mod Written
pub mod Counting
pub mod Controlled
