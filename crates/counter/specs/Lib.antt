pub mod Counter
pub mod Claims
