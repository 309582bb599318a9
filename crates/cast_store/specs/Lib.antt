pub mod Store
pub mod Ids
pub mod Lines
