-- What the functions' proofs use.
mod Granule
mod Decoded
