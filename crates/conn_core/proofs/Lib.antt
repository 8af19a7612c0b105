pub mod Fuel
pub mod Heads
pub mod Inner
pub mod Served
pub mod Steps
pub mod Standing
