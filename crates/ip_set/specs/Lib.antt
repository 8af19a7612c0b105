pub mod Blocks
pub mod Membership
