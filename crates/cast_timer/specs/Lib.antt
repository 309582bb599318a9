pub mod Owed
pub mod Rows
pub mod Index
pub mod Laws
