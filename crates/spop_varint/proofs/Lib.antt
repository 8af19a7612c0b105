pub mod Tails
pub mod Laws
pub mod Spelling
pub mod Splits
