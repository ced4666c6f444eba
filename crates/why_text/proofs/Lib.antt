pub mod Saying
pub mod Asked
