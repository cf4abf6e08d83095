-- What a reader must believe of the answer's text: numbers and words as bytes, the line, and a line in a buffer.
pub mod Line
pub mod Code
