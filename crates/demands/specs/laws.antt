pub mod Reopened
pub mod Proved
