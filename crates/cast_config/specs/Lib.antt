pub mod Faults
pub mod Fields
pub mod Entries
pub mod Documents
pub mod Keys
