mod AllowedLaws
mod AskLaws
mod EndLaws
mod ExpansionLaws
pub mod FrameLaws
mod HoldLaws
mod JobLaws
mod MomentLaws
mod NextLaws
mod OpeningLaws
mod OrderLaws
mod OutcomeLaws
mod PendingLaws
mod PlaceLaws
mod ReadyLaws
pub mod RoundLaws
mod RunLaws
mod ServeLaws
mod ServingLaws
mod StepLaws
mod TakenLaws
mod ThreadLaws
mod TogetherLaws
mod TurnLaws
mod UnitLaws
mod VersionLaws
