pub mod Releases
pub mod Month
pub mod Claim
