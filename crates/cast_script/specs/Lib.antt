pub mod Words
pub mod WordReadings
pub mod Reasons
pub mod Lines
pub mod LineReadings
pub mod Scripts
pub mod Readings
pub mod Laws
