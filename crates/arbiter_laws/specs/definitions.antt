pub mod Fair
pub mod Calls
pub mod Sharing
