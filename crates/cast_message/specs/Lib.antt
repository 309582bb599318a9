pub mod Bodies
pub mod Receipts
pub mod Membership
pub mod Tail
pub mod Placement
pub mod KeptIds
pub mod Fitting
pub mod Replies
