pub mod Arguments
pub mod References
pub mod Begins
pub mod Sought
pub mod Places
pub mod Collected
pub mod Drafts
