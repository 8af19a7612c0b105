pub mod State
pub mod Text
pub mod Values
pub mod Links
pub mod Effect
pub mod Phase
pub mod Judgement
