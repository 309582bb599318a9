pub mod Entries
pub mod Joins
pub mod Rooms
pub mod Valid
pub mod Orders
pub mod Raised
pub mod Halving
pub mod News
