pub mod Reach
pub mod Same
pub mod Granules
pub mod Editions
