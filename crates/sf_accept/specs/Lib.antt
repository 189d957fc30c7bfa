pub mod Refusals
pub mod Dumps
pub mod Explaining
