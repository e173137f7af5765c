pub mod Lists
pub mod Numbers
pub mod GrownLists
pub mod Sizes
pub mod GrowthSteps
pub mod Folds
pub mod Searches
mod Examples
