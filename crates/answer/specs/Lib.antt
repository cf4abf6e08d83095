-- What a reader must believe of the program's answer: the parts of the input, what the call answers and leaves, and the line in a user's words.
pub mod Input
pub mod Calls
pub mod Conditions
pub mod LineParsed
