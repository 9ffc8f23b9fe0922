pub mod Number
pub mod Record
pub mod Events
pub mod Load
pub mod Loads
pub mod Start
