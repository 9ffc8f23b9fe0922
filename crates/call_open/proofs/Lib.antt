-- What the functions' proofs use.
mod Over
