-- Definitions that only contracts of private functions use. No public contract reaches them, not even through other definitions.
pub mod ErrandServing
pub mod Reporting
pub mod Serving
pub mod Telling
