pub mod Readers
pub mod QuotedSteps
pub mod Shrinking
pub mod Splitting
pub mod WordLaws
pub mod WrittenLaws
pub mod LineLaws
