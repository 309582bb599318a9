pub mod Sizes
pub mod Refusals
pub mod Bodies
pub mod Fronts
pub mod Stays
pub mod Vectors
