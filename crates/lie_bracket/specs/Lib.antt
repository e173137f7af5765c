pub mod Brackets
pub mod Rewriting
pub mod Elements
pub mod Expanding
pub mod Entries
pub mod Tables
pub mod MoveTerms
