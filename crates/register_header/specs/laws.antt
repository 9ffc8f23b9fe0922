pub mod Bits
pub mod ByteLaws
pub mod Every
pub mod Dword
pub mod SizingLaws
