-- What only the code needs: what reading the lines answers, and what it keeps of them.
pub mod Lines
