-- Definitions that only contracts of private functions use, for the steps of proofs. No public contract depends on them.
pub mod DayRolls
pub mod KeptContracts
pub mod KeptReallocations
pub mod Parts
