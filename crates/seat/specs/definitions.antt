pub mod Grants
pub mod Table
