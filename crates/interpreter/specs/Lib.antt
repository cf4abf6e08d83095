-- What a reader must believe of the plain run: the definition, what it is for its end to be true, the call's contract, and the numbers of its answer.
pub mod PlainRun
pub mod Answers
pub mod Calls
pub mod Conditions
pub mod Replies
pub mod Code
