pub mod Counted
pub mod Flagged
pub mod Lines
