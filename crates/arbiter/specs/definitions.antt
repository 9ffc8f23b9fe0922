pub mod Rings
pub mod SetSearch
pub mod Arbiter
