pub mod Computed
pub mod Decided
pub mod Accepted
pub mod Telling
