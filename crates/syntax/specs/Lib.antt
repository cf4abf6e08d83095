-- What a reader must believe of grammars as text: tokens, syntax trees, refusals 15 to 17, the rules needed, the grammar built, and the line that a rule is of.
pub mod Tokens
pub mod Trees
pub mod Faults
pub mod FaultMeaning
pub mod Needs
pub mod Compile
pub mod RuleLines
pub mod Reading
pub mod Code
