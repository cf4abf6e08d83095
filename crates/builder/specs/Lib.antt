-- What a reader must believe of building: the choice of a match, byte classes, the table, the image, and what the call answers.
pub mod Matching
pub mod Classes
pub mod ClassMeaning
pub mod Table
pub mod Image
pub mod WholeBefore
pub mod Conditions
pub mod Answers
pub mod Calls
pub mod Replies
pub mod Code
