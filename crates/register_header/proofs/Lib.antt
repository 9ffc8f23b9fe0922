-- What the functions' proofs use, and the theorems over the tables that are the code's: an edit of a table has to break them.
pub mod Disjoint
pub mod Lacked
pub mod Restore
mod Power
mod Four
mod Masks
mod Back
