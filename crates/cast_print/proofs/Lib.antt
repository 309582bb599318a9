mod Digits
pub mod Joined
pub mod WordBytes
pub mod Lines
pub mod FrameBytes
pub mod Spelled
pub mod Read
