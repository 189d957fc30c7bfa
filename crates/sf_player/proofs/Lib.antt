pub mod Known
pub mod Asked
pub mod Saving
pub mod Samples
pub mod Steps
pub mod Refusing
pub mod Running
pub mod Once
