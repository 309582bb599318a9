pub mod Orders
pub mod Firsts
pub mod Lasts
pub mod Rises
