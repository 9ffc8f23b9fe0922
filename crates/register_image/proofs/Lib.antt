-- What the functions' proofs use.
mod Slot
mod Held
mod Filled
mod Counted
mod Sized
