pub mod Stores
pub mod Accepted
pub mod Written
