pub mod Names
pub mod Order
pub mod Endless
pub mod Graphs
pub mod Laws
