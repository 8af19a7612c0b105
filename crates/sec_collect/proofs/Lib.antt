pub mod Basename
pub mod Puts
pub mod Takes
