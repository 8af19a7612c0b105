pub mod Steps
pub mod Numbers
pub mod Types
pub mod Items
pub mod Laws
pub mod Written
