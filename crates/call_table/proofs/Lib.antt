-- What the functions' proofs use.
mod Calling
