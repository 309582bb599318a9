pub mod Typed
pub mod Datagrams
pub mod Laws
