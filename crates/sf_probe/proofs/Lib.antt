pub mod Noting
pub mod Watching
