pub mod Parsing
pub mod Placed
pub mod Deeper
pub mod Found
pub mod Lists
pub mod Behind
pub mod Whole
pub mod Places
