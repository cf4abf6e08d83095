-- What is proved of grammars with and without left recursion, by topic.
pub mod Consumed
pub mod Rank
pub mod ParsesAll
pub mod NeverLoops
pub mod FirstParts
pub mod Harmless
