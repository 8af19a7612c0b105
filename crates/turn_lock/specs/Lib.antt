pub mod History
pub mod Marks
pub mod View
pub mod Rule
pub mod Plays
pub mod Lock
pub mod Numbers
