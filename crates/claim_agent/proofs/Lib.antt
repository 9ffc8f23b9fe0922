-- What the functions' proofs use.
mod Reach
