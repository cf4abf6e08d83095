-- What is proved of typed grammars, by topic.
pub mod Numbering
pub mod Encoded
pub mod Named
pub mod Standing
pub mod Lines
pub mod PartsBelow
pub mod MeansParses
pub mod ParsesMeans
pub mod TypedRight
pub mod LineRules
