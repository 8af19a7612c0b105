pub mod Spellings
pub mod Heads
pub mod Bodies
