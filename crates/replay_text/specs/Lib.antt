pub mod Commands
pub mod Numbers
pub mod Opened
pub mod Playable
pub mod Results
pub mod Script
