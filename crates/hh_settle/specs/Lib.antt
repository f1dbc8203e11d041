pub mod Calls
pub mod Stopping
pub mod Stops
pub mod Tasks
pub mod steps
