pub mod PowerBounds
pub mod Factors
pub mod SeriesLaws
pub mod ShuffleRelations
pub mod LogarithmsOnShuffles
pub mod HornerSeries
pub mod HornerBounds
pub mod HornerSteps
