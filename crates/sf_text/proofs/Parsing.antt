pub mod Placed
pub mod Deeper
pub mod Found
