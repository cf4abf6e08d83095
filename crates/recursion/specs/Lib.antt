-- What a reader must believe of left recursion: the request's words, and what the check computes. code/ is what only the code needs.
pub mod LeftRecursion
pub mod Computed
pub mod Code
