pub mod Finds
pub mod Numbers
pub mod Ids
pub mod Lines
pub mod Stocks
pub mod Shows
pub mod Slots
