-- The ten worked examples, and those of bundles, of left recursion, of halting rules, of leading matches and of grammars as text.
pub mod Examples
pub mod ProgramLine
pub mod BundleExamples
pub mod RecursionExamples
pub mod HaltingExamples
pub mod LeadingExamples
pub mod TextExamples
