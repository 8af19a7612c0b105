pub mod Computed
pub mod Words
