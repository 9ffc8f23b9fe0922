-- What the functions' proofs use.
mod Digits
mod Room
