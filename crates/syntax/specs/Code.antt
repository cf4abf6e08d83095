-- What only the code needs: the names that lines begin with, told from the tokens alone.
pub mod Heads
