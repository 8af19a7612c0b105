pub mod Earliest
pub mod Joined
pub mod Nearer
pub mod PhraseLaw
