pub mod Count
pub mod Plays
pub mod Rule
pub mod View
