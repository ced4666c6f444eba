pub mod Reading
pub mod Sames
pub mod Writing
