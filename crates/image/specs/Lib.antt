-- What a reader must believe of images, in the order of the paper: the format, what an image says, refusals 1 to 7 and the conditions that they stand for, images without a halting rule, an image as a value.
pub mod Format
pub mod Image
pub mod Refusals
pub mod Conditions
pub mod WithoutHalting
pub mod Encoding
pub mod Code
