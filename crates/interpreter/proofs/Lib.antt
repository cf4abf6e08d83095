-- Laws that the proofs of this crate cite, by topic.
pub mod Heights
pub mod TrueEnd
pub mod Answered
pub mod RunStops
pub mod ConditionsMet
pub mod CellLaws
pub mod RunSteps
pub mod ReadyLaws
pub mod StepLaws
pub mod CodeLaws
pub mod MachineLaws
pub mod WalkLaws
pub mod RefusalLaws
