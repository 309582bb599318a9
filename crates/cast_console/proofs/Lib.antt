pub mod Heads
pub mod Cuts
pub mod Behind
pub mod Numbers
