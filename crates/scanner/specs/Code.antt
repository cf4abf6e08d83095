-- What only the code needs: what the scanner finds, the search for a line by its name, and the check of a text.
pub mod Scanning
pub mod Naming
pub mod Stepping
