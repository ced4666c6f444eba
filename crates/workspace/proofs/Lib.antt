pub mod Alike
pub mod Restoring
pub mod Judging
