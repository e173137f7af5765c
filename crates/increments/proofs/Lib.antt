pub mod Places
pub mod Names
mod Ties
mod Ranges
pub mod Edits
mod Order
pub mod Joins
mod Copies
