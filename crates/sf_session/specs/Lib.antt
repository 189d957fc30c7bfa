pub mod Alone
pub mod Phases
pub mod Feeding
