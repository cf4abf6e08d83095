-- What is proved of reading an expression, by topic.
pub mod Emitting
pub mod Operating
pub mod Lookings
pub mod Placing
pub mod Deriving
pub mod Descending
pub mod Operands
pub mod Leaves
pub mod Joining
pub mod Ways
