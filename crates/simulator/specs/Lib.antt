-- What a reader must believe of judging: what the calls answer and leave.
pub mod Answers
pub mod Calls
pub mod Conditions
pub mod Replies
pub mod Code
