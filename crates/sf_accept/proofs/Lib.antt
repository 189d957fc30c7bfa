pub mod Refusing
pub mod Again
