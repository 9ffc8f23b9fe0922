-- What the functions' proofs use, and the theorems over the parts that are the code's: an edit of them has to break these.
pub mod FillingLaws
mod Ran
mod Turns
