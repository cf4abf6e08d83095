-- What only the code needs: sets of rules as numbers.
pub mod Sets
