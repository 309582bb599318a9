pub mod Traces
pub mod Kept
pub mod Served
pub mod Tasks
pub mod Posts
