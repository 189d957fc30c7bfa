pub mod Adapters
pub mod Lookups
pub mod Typed
