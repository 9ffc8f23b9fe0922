-- What the functions' proofs use.
mod Words
mod Grown
