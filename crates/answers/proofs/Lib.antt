pub mod AnswerCounts
pub mod Cuts
pub mod DigitParts
mod Examples
pub mod Generated
pub mod JoinedNumbers
pub mod JsonLevels
pub mod LevelTexts
pub mod ModularSums
pub mod NameLists
pub mod NoFloats
pub mod NumberedTexts
pub mod OrderTold
pub mod PieceLaws
pub mod TensorSums
pub mod TotalLaws
pub mod TotalSteps
pub mod WatchLines
