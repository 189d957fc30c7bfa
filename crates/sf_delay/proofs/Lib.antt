pub mod Widths
pub mod Lasting
pub mod Ticking
pub mod Turns
