-- What the functions' proofs use, also those of crates above.
pub mod Ended
mod Owned
mod Seen
mod Sits
