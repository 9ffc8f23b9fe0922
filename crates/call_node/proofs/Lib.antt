-- What the functions' proofs use.
mod Told
