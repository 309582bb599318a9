pub mod Spelling
pub mod Reading
pub mod Spelled
pub mod Laws
