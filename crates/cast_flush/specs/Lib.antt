pub mod Reports
pub mod Decisions
pub mod Laws
