pub mod Answer
pub mod Names
pub mod Reading
pub mod Refusal
pub mod Request
pub mod Response
pub mod Taking
pub mod Values
