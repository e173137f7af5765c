pub mod Entries
pub mod Views
pub mod History
pub mod Steps
pub mod Passes
