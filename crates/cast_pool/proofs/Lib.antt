pub mod Numbers
pub mod Turns
pub mod Events
pub mod Halts
pub mod Replays
pub mod Serving
pub mod Posts
