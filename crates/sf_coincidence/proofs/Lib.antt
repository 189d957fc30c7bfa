pub mod Worth
pub mod Same
pub mod Opening
pub mod Main
