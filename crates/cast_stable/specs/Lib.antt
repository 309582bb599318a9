pub mod Stable
pub mod Runs
pub mod Witnesses
pub mod Acks
pub mod Fits
pub mod Laws
pub mod Sizes
