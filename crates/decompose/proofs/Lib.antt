pub mod Lists
pub mod Cover
pub mod Longest
pub mod Counts
