pub mod EntryLists
pub mod Seats
pub mod Taking
pub mod Giving
pub mod Passing
