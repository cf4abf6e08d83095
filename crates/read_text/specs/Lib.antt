-- What a reader must believe of the program: its input's buffer, and what it writes.
pub mod Program
