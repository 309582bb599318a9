pub mod Poly1305
pub mod Hmac
pub mod Seals
