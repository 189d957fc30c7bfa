pub mod Accumulating
pub mod Primitives
pub mod Linked
