pub mod Placed
pub mod Extended
pub mod Copied
pub mod Among
pub mod Called
pub mod Rebodied
mod Numbers
mod Located
pub mod Naming
mod Covering
pub mod Enough
pub mod Held
