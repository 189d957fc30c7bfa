pub mod Items
pub mod Folded
pub mod Arenas
pub mod Shallow
