pub mod Kept
pub mod Events
pub mod Files
pub mod Denied
pub mod Before
pub mod NamedPair
