pub mod Frames
pub mod Sizes
pub mod Vectors
