pub mod Output
pub mod Filling
pub mod Fills
pub mod Place
