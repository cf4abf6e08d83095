-- What is refused is defined in image/specs/Refusals.antt; here is only what the code of the check needs.
pub mod Code
