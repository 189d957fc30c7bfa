pub mod Planned
pub mod Histories
pub mod Running
pub mod Sampling
pub mod Saving
pub mod Embedding
pub mod Acting
pub mod Reacting
