pub mod Definition
pub mod Help
pub mod Numbers
pub mod Words
