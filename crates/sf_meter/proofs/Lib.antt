pub mod Ticking
