pub mod Copies
pub mod Scopes
pub mod Fewer
mod Parts
