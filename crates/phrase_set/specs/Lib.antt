pub mod Phrases
pub mod Search
