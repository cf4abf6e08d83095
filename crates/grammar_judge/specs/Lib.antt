-- What a reader must believe of judging by a grammar: what is lent, what is refused, and what users get by the two calls.
pub mod Calls
pub mod TwoCalls
pub mod Code
