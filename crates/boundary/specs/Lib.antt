pub mod Boundary
pub mod Held
pub mod Parts
pub mod Rows
