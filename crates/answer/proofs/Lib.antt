-- Laws that the proofs of the answer's functions cite.
pub mod InputLaws
pub mod ConditionsMet
pub mod Answering
pub mod LineWhole
pub mod Answered
pub mod AnsweringMet
