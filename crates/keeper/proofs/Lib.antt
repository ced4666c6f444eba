pub mod LookLaws
pub mod Passed
pub mod Recoveries
pub mod Sames
pub mod Stores
pub mod Transactions
pub mod Unless
