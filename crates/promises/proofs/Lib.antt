-- The proofs of the promises: each cites the crate that proves it.
pub mod Told
pub mod MatchingTold
pub mod CallsTold
pub mod ChecksTold
pub mod CallsDetermined
pub mod NotLooping
pub mod TextNotLooping
pub mod Proved
