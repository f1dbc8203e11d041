-- Definitions that only contracts of private functions use, for the steps of proofs. No public contract depends on them.
pub mod Changes
pub mod Effects
pub mod FileRows
pub mod Lateness
pub mod Percents
pub mod Positions
pub mod RegisterView
