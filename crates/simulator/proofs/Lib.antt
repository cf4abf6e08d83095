-- What is proved of the calls: refusals, cells, and that the loop follows the chain to its end.
pub mod Starting
pub mod Needing
pub mod JudgeMode
pub mod StepsLeft
pub mod JudgeLoop
pub mod JudgeRefusals
pub mod Determined
pub mod ConditionsMet
pub mod Answered
pub mod LengthsKept
pub mod JudgingRight
pub mod StopsExact
pub mod JudgedLikeStuck
pub mod Replying
