pub mod Answers
pub mod Rolling
