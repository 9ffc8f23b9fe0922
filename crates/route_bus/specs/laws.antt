pub mod EndLaws
pub mod LookLaws
