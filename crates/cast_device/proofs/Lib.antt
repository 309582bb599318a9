pub mod Written
pub mod Tries
pub mod Pieces
