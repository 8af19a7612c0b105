pub mod Answered
pub mod Ends
pub mod Met
pub mod Steps
