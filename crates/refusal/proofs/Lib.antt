-- What is proved of refusals, by topic: tests that reflect a statement, searching, a table by rows, one after another.
pub mod Reflects
pub mod Searching
pub mod Rows
pub mod Refused
pub mod Checked
