pub mod Events
pub mod Parts
pub mod Whole
