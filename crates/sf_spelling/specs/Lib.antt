pub mod Spelling
pub mod Reading
pub mod Scan
pub mod Gives
pub mod Refuses
pub mod Steps
