-- What the functions' proofs use.
mod Searched
mod States
mod Requests
mod Stepped
mod Answered
