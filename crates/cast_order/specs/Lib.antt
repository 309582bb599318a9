pub mod Order
pub mod Hand
pub mod Log
pub mod Fits
pub mod Laws
pub mod Sizes
