pub mod Building
pub mod Faults
pub mod Digits
pub mod Texts
pub mod Found
