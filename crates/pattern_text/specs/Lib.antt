pub mod Texts
pub mod Escapes
pub mod Words
pub mod Classes
pub mod Outside
pub mod Wording
pub mod Written
