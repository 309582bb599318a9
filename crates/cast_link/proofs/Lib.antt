pub mod Bundles
pub mod Packs
pub mod Readings
