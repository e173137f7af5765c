pub mod Elements
pub mod ElementReading
pub mod Faults
