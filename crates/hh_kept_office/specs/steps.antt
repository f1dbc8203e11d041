-- Definitions that only contracts of private functions use. No public contract reaches them, not even through other definitions.
pub mod Crashes
pub mod Running
pub mod Scripts
