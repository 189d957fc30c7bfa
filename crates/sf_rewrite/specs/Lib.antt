pub mod Quiet
pub mod Laws
pub mod Plans
pub mod Normal
