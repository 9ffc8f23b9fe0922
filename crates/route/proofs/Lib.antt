-- What the functions' proofs use.
mod Taken
