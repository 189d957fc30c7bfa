pub mod Answering
pub mod Around
pub mod Behind
pub mod Edits
pub mod Routing
pub mod Sampling
pub mod Stepping
