-- What the functions' proofs use.
mod Measured
