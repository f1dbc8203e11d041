pub mod Headline
pub mod NewRuns
pub mod RunLimits
pub mod steps
