pub mod Crew
pub mod ServedOn
pub mod Opening
