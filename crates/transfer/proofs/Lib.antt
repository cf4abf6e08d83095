-- Laws that the proofs of reading and writing cite.
pub mod Outcomes
