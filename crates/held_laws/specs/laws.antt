pub mod Others
pub mod OtherCheck
