pub mod Statuses
pub mod Elements
pub mod Due
pub mod Calls
pub mod Made
