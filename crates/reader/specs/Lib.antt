-- What a reader must believe of the call `read`; code/ is what only the code needs.
pub mod Calls
pub mod Code
