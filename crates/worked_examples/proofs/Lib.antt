-- The table of examples, proved: the chain's end is the run's, the test of a row and its law, and the test computed over the table; and that no other row holds. And the examples of bundles, of left recursion and of grammars as text, computed.
pub mod ChainEnd
pub mod RowLaws
pub mod ExamplesHold
pub mod OnlyRow
pub mod ProgramPrints
pub mod BundlesHold
pub mod RecursionHolds
pub mod TextsHold
