pub mod Places
pub mod Numbers
pub mod Deadlines
pub mod Stages
pub mod Values
pub mod KeyOrder
pub mod KeyedRows
pub mod ParkedCounts
