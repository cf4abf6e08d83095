-- What is proved of left recursion: the laws of sets as numbers, what the code computes, and that it is what the request's words say.
pub mod Members
pub mod Parts
pub mod Rows
pub mod Lowest
pub mod Counting
pub mod NothingLeast
pub mod Sweeps
pub mod ClosureRight
pub mod RecursionRows
