pub mod Few
pub mod Firsts
pub mod Items
pub mod Loads
pub mod Refusals
pub mod Texts
