pub mod Contents
pub mod Tables
pub mod Owns
pub mod Shows
pub mod Copies
pub mod Backlogs
