pub mod Refused
pub mod Seats
pub mod Events
pub mod Shape
pub mod Running
pub mod Named
pub mod Front
pub mod Alone
