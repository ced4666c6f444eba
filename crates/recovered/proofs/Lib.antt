pub mod Settled
pub mod Sizes
pub mod Afresh
