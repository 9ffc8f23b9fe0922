-- What the functions' proofs use.
mod Few
mod Ranges
