pub mod Series
pub mod Faults
pub mod Expansions
pub mod Levels
pub mod Partitions
pub mod Wholes
pub mod Placed
