pub mod Logs
pub mod Powers
pub mod Faults
pub mod Horner
