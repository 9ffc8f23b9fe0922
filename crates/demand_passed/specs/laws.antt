pub mod Firsts
pub mod Clear
pub mod Ways
pub mod PassedRack
