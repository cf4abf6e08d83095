-- What is proved of grammars: what their refusals mean, what an unrefused one has, and the laws that the check's proofs cite.
pub mod Matches
pub mod Bools
pub mod ConditionsMet
pub mod GrammarGood
pub mod CodeGrammar
pub mod Inverted
