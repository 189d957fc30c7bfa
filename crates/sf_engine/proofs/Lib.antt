pub mod Acting
pub mod Going
pub mod Saving
pub mod Following
pub mod Boxed
pub mod Planned
