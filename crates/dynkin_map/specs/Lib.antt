pub mod Coordinates
pub mod Rows
pub mod Table
pub mod Faults
