pub mod Turns
pub mod Replaying
