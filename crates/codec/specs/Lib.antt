-- What a reader must believe of bytes: a byte, a part of a list, a number and a pair as bytes.
pub mod Bytes
pub mod Numbers
