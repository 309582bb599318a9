pub mod Pending
pub mod Outboxes
