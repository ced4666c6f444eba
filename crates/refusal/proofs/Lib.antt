pub mod Asking
pub mod Faults
pub mod Lengths
pub mod Tables
