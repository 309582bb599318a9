pub mod Holders
pub mod Takes
pub mod Bytes
pub mod Ends
pub mod Puts
