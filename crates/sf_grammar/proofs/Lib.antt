pub mod Words
pub mod Parts
pub mod Takes
pub mod Again
pub mod Unique
pub mod Counted
pub mod Texts
pub mod Answered
