-- Nothing of reading an expression is part of a promise: code/ is what only the code needs.
pub mod Code
