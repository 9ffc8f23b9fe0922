pub mod Ends
pub mod Path
