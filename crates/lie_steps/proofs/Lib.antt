pub mod Concatenations
pub mod Primitives
pub mod Quotients
pub mod Exponentials
pub mod ExponentialBounds
pub mod Expansions
pub mod LieSeries
pub mod PlainSteps
pub mod StepLaws
pub mod ExponentialRoom
pub mod StepForms
mod Examples
