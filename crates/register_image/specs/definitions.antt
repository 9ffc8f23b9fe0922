pub mod Image
pub mod Fixed
pub mod Reset
pub mod Sizing
pub mod Lent
pub mod LentMut
