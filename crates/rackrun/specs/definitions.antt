pub mod Input
pub mod Run
pub mod Written
