-- What a reader must believe of grammars: their bytes, refusals 11 and 12, and parsing.
pub mod Grammar
pub mod Kinds
pub mod Parsing
pub mod Conditions
