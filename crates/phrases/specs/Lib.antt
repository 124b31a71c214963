pub mod Piece
pub mod Phrase
pub mod Exact
pub mod Reading
