-- Nothing of the scanner is part of a promise: code/ is what only the code needs.
pub mod Code
