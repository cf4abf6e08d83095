-- What a reader must believe of machines, in the order of the paper: the run, how it terminates, verdicts and notes, and their numbers.
pub mod Run
pub mod Terminating
pub mod Verdicts
pub mod LikeStuck
pub mod Removal
pub mod Replies
pub mod Implications
pub mod VerdictRows
