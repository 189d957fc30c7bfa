pub mod Meaning
pub mod Numbers
pub mod Registries
pub mod Signatures
pub mod Storing
pub mod Arithmetic
pub mod Callees
