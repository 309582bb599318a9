pub mod Fronts
pub mod Heard
pub mod Pushes
pub mod Calls
pub mod Pumping
pub mod ReadingPush
pub mod Room
