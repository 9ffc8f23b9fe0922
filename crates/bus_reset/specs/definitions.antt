pub mod Held
pub mod Agreement
pub mod Store
