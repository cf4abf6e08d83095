-- What is proved of the reader, by topic: heads of lines; names that differ; the check as an automaton, and legal texts; one tree; the earliest fault; one answer.
pub mod Heads
pub mod NamesApart
pub mod Automaton
pub mod RunLegal
pub mod LegalRun
pub mod OneTree
pub mod FaultsRight
pub mod ReadingExact
pub mod Counting
pub mod RuleLines
pub mod Encoding
