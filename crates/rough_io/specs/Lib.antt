pub mod Counts
pub mod Transfers
pub mod Memory
