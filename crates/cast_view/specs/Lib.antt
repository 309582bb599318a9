pub mod Sites
pub mod Home
pub mod Flush
pub mod MemberSide
pub mod Laws
