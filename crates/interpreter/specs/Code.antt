-- What only the code needs: preconditions of private functions and intermediate forms. A reader of the promises can skip this folder.
pub mod Stepping
