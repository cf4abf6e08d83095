-- What a reader must believe of typed grammars: what a tree means, and which rules of the grammar are a line's.
pub mod Meaning
pub mod RuleOf
