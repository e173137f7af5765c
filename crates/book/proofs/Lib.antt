mod BookLaws
mod CountLaws
mod EditLaws
mod Examples
mod ExpiryLaws
pub mod FitLaws
mod HeldLaws
mod HitLaws
mod LookLaws
pub mod LookingLaws
pub mod MissLaws
mod PastLaws
pub mod PieceLaws
pub mod PlanLaws
mod RowJoins
pub mod SeenLaws
mod SettledLaws
pub mod SinceLaws
pub mod StateLaws
mod VisitLaws
mod WalkLaws
