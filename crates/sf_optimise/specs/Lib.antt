pub mod Lists
pub mod Making
pub mod Optimised
pub mod Plans
