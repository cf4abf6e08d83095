-- Laws that the proofs of the writing functions cite.
pub mod Writing
pub mod Decimal
pub mod LineLength
