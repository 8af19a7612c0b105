pub mod Firsts
pub mod Nodes
pub mod Settling
pub mod Counts
