pub mod DayNets
pub mod NextRun
pub mod Postings
pub mod RunKinds
pub mod steps
