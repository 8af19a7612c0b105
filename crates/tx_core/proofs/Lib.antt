pub mod Choices
pub mod Behind
pub mod Stays
pub mod NoRules
pub mod Joins
