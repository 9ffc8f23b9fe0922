-- What the functions' proofs use.
mod Puts
mod Records
mod Whole
