pub mod Sets
pub mod Search
pub mod Places
pub mod Answers
