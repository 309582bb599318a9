pub mod Places
pub mod Numbers
pub mod Turns
pub mod Applies
pub mod Parts
pub mod Ordered
pub mod Meant
