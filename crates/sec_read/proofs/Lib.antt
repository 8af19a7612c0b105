pub mod AddressWords
pub mod Depths
pub mod FirstFault
pub mod Opens
pub mod Told
