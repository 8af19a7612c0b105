pub mod AddressText
pub mod Arguments
pub mod Cookies
pub mod Headers
pub mod Pieces
