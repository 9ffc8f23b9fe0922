-- What the functions' proofs use.
mod Turns
