pub mod Taking
pub mod Fed
