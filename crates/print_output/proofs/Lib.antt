-- What the functions' proofs use.
mod Done
mod First
mod Pieces
