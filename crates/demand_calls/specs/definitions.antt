pub mod Events
pub mod CCalls
pub mod Resets
