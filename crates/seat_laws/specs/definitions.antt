pub mod Kept
pub mod Running
pub mod Denied
pub mod Before
pub mod NamedPair
