pub mod FirstLaws
pub mod Stretch
