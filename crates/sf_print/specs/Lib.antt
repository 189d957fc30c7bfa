pub mod Canonical
pub mod Versions
pub mod Drafts
pub mod Signs
pub mod Arguments
pub mod Laws
