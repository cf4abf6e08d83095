-- What is proved of the scanner's code, by topic.
pub mod Lexing
pub mod Tokenizing
pub mod Passing
pub mod Searching
pub mod LineStarts
pub mod Moving
pub mod Faulting
pub mod Defining
pub mod LineNames
