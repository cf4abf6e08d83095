-- What a reader must believe of refusals: number, place, the first of several, and what a check answers.
pub mod Kinds
pub mod KindsBack
pub mod First
pub mod Checking
