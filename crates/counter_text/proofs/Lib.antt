pub mod Said
pub mod Afterwards
