pub mod Mentions
pub mod Alike
