-- What a reader must believe of the calls on grammars as text: what they answer and leave, what users get, and the numbers of the answers to reading and to the check for left recursion.
pub mod Calls
pub mod TypedCalls
pub mod Recursion
pub mod Replies
