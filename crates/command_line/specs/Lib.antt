pub mod Gathered
pub mod Settings
pub mod Values
pub mod Wishes
