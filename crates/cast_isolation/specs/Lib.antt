pub mod Replays
pub mod Laws
