pub mod Consuming
pub mod Answers
