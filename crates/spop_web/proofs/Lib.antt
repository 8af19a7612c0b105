pub mod Takes
pub mod Chains
pub mod Fields
