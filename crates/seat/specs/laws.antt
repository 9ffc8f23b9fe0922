pub mod Writing
pub mod Stored
