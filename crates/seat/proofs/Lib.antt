-- What the functions' proofs use.
mod Asked
mod Filled
