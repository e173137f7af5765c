pub mod Faults
pub mod Holdings
