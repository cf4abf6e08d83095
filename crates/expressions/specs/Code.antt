-- What only the code needs: what can follow, and the rules made while an expression is read.
pub mod Building
pub mod Lookahead
pub mod Operators
pub mod Levels
