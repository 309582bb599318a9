pub mod Logs
pub mod Scripts
pub mod Printable
pub mod Laws
