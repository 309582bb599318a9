pub mod Readings
pub mod Premises
pub mod Instances
