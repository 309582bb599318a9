pub mod Times
pub mod News
pub mod Laws
