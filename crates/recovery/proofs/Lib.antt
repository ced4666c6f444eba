pub mod Recovering
pub mod Sames
