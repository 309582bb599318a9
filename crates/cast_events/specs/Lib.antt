pub mod Events
pub mod Outs
pub mod Session
