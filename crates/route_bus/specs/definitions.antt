pub mod End
pub mod Look
pub mod Cross
