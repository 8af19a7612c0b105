pub mod Alphabets
pub mod Apply
pub mod CmdLine
pub mod Comments
pub mod Encodings
pub mod NormalizePath
pub mod Whitespace
