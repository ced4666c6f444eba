pub mod Crossing
pub mod Made
pub mod Places
pub mod RowLaws
pub mod SevenNumbers
pub mod Unsound
pub mod Sames
