pub mod RecordLaws
pub mod Steps
pub mod Turns
pub mod LoadLaws
pub mod LoadsLaws
