pub mod Closings
pub mod Given
pub mod Lists
pub mod Owning
pub mod Visits
