-- What the functions' proofs use.
mod Low
