pub mod Sigs
pub mod Faults
pub mod Extension
pub mod Multiplication
pub mod Concatenation
pub mod Sums
pub mod Exponentiation
