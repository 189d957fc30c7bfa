pub mod Entered
pub mod Extended
pub mod Refused
pub mod Named
