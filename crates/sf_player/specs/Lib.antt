pub mod Counting
pub mod Statuses
pub use Rattle.sf_accept.specs.Refusals
pub use Rattle.sf_accept.specs.Dumps
pub mod Scripts
pub mod Stops
pub mod Telling
pub mod Playing
