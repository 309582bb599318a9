pub mod Pens
pub mod Writing
pub mod Moves
pub mod Laws
