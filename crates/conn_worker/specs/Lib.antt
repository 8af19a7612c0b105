pub mod Entries
pub mod Desk
pub mod Serving
pub mod Served
pub mod Worked
