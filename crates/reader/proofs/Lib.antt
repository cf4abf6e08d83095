-- What is proved of reading the lines, by topic.
pub mod Tables
pub mod Lining
pub mod AllLines
pub mod Owning
pub mod ReadRight
