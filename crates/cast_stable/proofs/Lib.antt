pub mod Runs
pub mod Witnesses
pub mod Lists
pub mod Greatest
pub mod Meanings
pub mod Last
pub mod Sizes
