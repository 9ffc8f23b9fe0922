pub mod Piece
pub mod Rest
