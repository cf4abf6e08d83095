-- What a reader must believe of grammars without left recursion.
pub mod NeverLoops
pub mod FirstParts
pub mod Harmless
