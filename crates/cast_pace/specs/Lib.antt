pub mod Windows
pub mod Following
pub mod Speeds
pub mod Lasting
pub mod Changes
