pub mod Each
pub mod Gathered
pub mod Cuts
pub mod Lacking
pub mod Ends
pub mod Kept
pub mod Wanting
