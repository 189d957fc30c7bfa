pub mod Spelling
pub mod Reading
pub mod Placing
pub mod Stopping
