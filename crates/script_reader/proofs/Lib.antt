mod Examples
mod Fields
mod Degrees
mod RowLines
mod Partitions
mod Tallies
mod Kept
mod Adding
pub mod Loop
