pub mod Pairs
pub mod Blanks
pub mod Statuses
pub mod Sizes
pub mod Again
