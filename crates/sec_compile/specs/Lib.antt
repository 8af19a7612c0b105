pub mod Links
pub mod Unread
