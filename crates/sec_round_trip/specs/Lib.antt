pub mod Actions
pub mod Directives
pub mod Lines
pub mod Macros
pub mod Operators
pub mod Printable
pub mod Targets
pub mod Variables
