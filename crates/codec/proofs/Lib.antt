-- Laws of bytes: reading past a part, numbers and pairs read back, and what stands in a buffer after a part was written.
pub mod Reading
pub mod RoundTrips
pub mod Writes
