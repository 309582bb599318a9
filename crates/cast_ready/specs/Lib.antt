pub mod Ready
pub mod DeliveredCounts
pub mod Rows
