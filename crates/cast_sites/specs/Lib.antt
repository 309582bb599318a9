pub mod Daemons
pub mod Laws
