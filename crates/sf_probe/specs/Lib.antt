pub mod Latest
pub mod Readings
pub mod Watching
