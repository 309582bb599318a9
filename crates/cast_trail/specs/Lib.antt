pub mod Notes
pub mod Room
