pub mod Index
pub mod Rises
