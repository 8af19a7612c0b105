pub mod Due
pub mod Tree
