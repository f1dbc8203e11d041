-- Definitions that only contracts of private functions use. No public contract reaches them, not even through other definitions.
pub mod DayParts
pub mod Moved
pub mod Named
pub mod Readings
pub mod UnitRows
