pub mod MonthText
pub mod Claim
