-- What the functions' proofs use.
mod Saving
