pub mod ShuffleSums
pub mod DualLaws
