pub mod PciRegs
pub mod Byte
pub mod Tables
pub mod Mask
pub mod Options
pub mod Register
pub mod Sizing
