-- What the functions' proofs use.
mod Asked
mod Below
mod Written
