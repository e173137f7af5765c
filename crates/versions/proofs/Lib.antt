pub mod Replays
mod Births
mod Removals
mod Committed
pub mod TouchLaws
pub mod DistinctNames
pub mod Untouched
mod InOrder
pub mod Pasts
mod Kept
mod VersionRows
