-- Laws that the proofs of the program's functions cite.
pub mod Outputs
