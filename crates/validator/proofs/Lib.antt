-- Laws that the proofs of the checks cite.
pub mod CheckParts
pub mod CheckLoops
