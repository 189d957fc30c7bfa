pub mod Gifts
pub mod Lately
pub mod Waits
pub mod Queues
pub mod Delays
