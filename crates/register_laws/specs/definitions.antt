pub mod FalseImages
