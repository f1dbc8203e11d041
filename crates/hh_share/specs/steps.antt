-- Definitions that only contracts of private functions use, for the steps of proofs. No public contract depends on them.
pub mod Quotas
pub mod Ranking
pub mod Shares
