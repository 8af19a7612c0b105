pub mod Search
pub mod Matching
pub mod Seen
pub mod Counting
pub mod Jumps
