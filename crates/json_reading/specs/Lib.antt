pub mod Piece
