pub mod Adding
pub mod Placed
pub mod Summed
pub mod Run
