pub mod Lasting
pub mod Starting
