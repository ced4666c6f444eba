pub mod Lined
pub mod Numbered
pub mod Tried
