pub mod Seals
