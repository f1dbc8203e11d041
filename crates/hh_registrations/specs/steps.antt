-- Definitions that only contracts of private functions use, for the steps of proofs. No public contract depends on them.
pub mod Changes
pub mod Dates
