pub mod Reason
pub mod Claim
