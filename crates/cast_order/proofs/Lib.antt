pub mod Lists
pub mod Told
pub mod Meanings
pub mod Closed
pub mod Logs
pub mod Hands
pub mod Steps
pub mod Sizes
