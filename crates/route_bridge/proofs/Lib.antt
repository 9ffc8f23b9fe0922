-- What the functions' proofs use.
mod Passed
