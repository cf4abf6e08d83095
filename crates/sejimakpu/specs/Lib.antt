-- What a reader must believe of the library for C and Rust: what the answer's cells hold, what each call leaves, and the version.
pub mod Cells
pub mod Calls
pub mod Version
