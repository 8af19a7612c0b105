pub mod Lists
pub mod Data
pub mod Reading
pub mod Writing
pub mod Answer
