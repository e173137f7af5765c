pub mod RangesOfWish
mod Examples
pub mod Pieces
pub mod SettingLaws
pub mod WrongValues
