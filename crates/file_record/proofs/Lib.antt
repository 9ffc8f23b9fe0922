-- What the functions' proofs use.
pub mod Classes
mod Records
