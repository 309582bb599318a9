pub mod Hmac
pub mod Poly1305
pub mod Seals
pub mod Words
