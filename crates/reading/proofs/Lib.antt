pub mod Pieces
pub mod Texts
