pub mod Powers
pub mod Staying
pub mod Once
