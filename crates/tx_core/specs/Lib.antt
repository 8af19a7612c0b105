pub mod Lines
pub mod Laws
pub mod Later
pub mod HalfView
pub mod Standing
pub mod Halves
