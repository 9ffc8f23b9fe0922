pub mod Said
pub mod After
pub mod Content
pub mod Listed
pub mod RackBytes
