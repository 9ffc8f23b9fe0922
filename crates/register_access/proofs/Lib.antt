-- What the functions' proofs use.
mod Past
mod Sized
