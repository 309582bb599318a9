pub mod Watching
pub mod Writing
