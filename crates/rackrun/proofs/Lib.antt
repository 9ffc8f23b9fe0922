-- What the functions' proofs use.
mod Blank
mod Ends
mod Loaded
mod Parts
mod Within
