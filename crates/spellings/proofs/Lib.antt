pub mod LineLaws
pub mod NameText
pub mod Places
