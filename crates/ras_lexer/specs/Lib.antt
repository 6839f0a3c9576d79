pub mod Texts
pub mod Words
pub mod Lengths
pub mod Pieces
pub mod Fronts
pub mod Lexing
