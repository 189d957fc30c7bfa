pub mod Beginning
pub mod Collecting
pub mod Contexts
pub mod Drafting
