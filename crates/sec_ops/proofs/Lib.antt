pub mod Digits
pub mod GateLemmas
pub mod Meanings
pub mod PatternLemmas
pub mod Selecting
pub mod Texts
