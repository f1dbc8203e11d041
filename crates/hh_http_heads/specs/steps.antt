-- Definitions that only contracts of private functions use. No public contract reaches them, not even through other definitions.
pub mod Fields
pub mod Found
pub mod Heads
pub mod Lengths
