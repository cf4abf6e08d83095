-- What a reader must believe of the judge's own steps: one step, and the chain that the steps form.
pub mod Cells
pub mod Step
pub mod Chain
pub mod NumberKept
pub mod Code
