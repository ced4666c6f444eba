pub mod Heads
pub mod Meanings
pub mod RowPlaces
