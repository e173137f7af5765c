pub mod Watches
pub mod Spans
pub mod Lists
