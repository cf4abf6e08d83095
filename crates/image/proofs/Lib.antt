-- What is proved of images, by topic: what their refusals mean, their rules, halting ones among them, that what is encoded reads back, and that their machine stays inside.
pub mod Bits
pub mod CountingOn
pub mod Encoded
pub mod RuleRight
pub mod ImageParts
pub mod ConditionsMet
pub mod CaptureMet
pub mod CheckGood
pub mod Rules
pub mod Lookups
pub mod Inside
pub mod HaltingRules
pub mod HaltingMissing
pub mod NotesImplied
pub mod CaptureRefused
