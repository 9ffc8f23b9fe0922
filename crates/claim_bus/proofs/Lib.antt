-- What the functions' proofs use, also those of crates above.
mod Decoded
mod Found
pub mod Next
mod OnBus
