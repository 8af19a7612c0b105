pub mod FaultLines
pub mod CommandFaults
pub mod Report
