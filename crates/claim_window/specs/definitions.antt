pub mod Range
pub mod Cut
pub mod Window
pub mod Inside
pub mod Area
