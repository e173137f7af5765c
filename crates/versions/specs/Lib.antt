pub mod Versions
pub mod Streams
pub mod Pasts
pub mod LogNodes
