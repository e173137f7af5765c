pub mod Fields
pub mod Coordinates
pub mod Limits
pub mod Forms
pub mod Lines
pub mod Script
pub mod Reading
