-- What the functions' proofs use.
mod Filled
mod Reports
mod Seen
