pub mod Rising
pub mod Fitting
pub mod Spans
pub mod Changes
