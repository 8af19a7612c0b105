pub mod Effects
pub mod Judging
