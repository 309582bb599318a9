pub mod Wires
pub mod Links
pub mod Bundles
pub mod Packing
pub mod Laws
