pub mod Links
pub mod Remembering
