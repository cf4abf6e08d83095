-- Laws of judging by a grammar that the proofs of its functions, and other crates, cite.
pub mod Refusing
pub mod Standing
pub mod TwoCallsHold
pub mod Determined
