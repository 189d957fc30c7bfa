pub mod Cutting
pub mod Scanning
pub mod Symbols
pub mod Tokens
pub mod Words
