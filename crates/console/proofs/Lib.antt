pub mod Brings
pub mod CommitRows
pub mod Making
pub mod Telling
