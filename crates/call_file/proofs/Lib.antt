-- What the functions' proofs use.
mod Opening
