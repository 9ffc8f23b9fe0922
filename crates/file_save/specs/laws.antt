pub mod Placed
pub mod Length
