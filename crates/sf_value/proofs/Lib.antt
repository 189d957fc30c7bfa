pub mod Comparing
pub mod Typing
pub mod Parting
pub mod Indexes
pub mod Removing
pub mod Listing
pub mod Under
pub mod Sought
