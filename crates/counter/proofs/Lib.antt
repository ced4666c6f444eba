pub mod Tried
pub mod Chosen
pub mod Answers
pub mod Spans
pub mod OnMedia
