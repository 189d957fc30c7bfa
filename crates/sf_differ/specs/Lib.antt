pub mod Differences
pub mod Wanting
pub mod Differing
