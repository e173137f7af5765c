pub mod Nodes
pub mod Exponents
