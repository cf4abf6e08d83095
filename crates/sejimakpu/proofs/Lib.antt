-- Laws that the proofs of the library's functions cite.
pub mod Told
pub mod Reading
