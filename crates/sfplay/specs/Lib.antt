pub mod Functions
pub mod Tasks
