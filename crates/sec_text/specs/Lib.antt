pub mod Readers
pub mod Quotes
pub mod Words
pub mod Lines
pub mod Margins
pub mod Joining
pub mod Written
pub mod WrittenLines
