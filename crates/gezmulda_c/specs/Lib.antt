pub mod Giving
pub mod Holding
