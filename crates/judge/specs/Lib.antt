-- What a reader must believe of the program: its buffers, and the line that it prints.
pub mod Program
