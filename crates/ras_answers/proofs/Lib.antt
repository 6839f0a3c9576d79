mod Pieces
mod Placing
mod Telling
