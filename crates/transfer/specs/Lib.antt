-- What a reader must believe of reading and writing: what a call came to, where the loops stop, and what counts as an input.
pub mod Transfers
