pub mod BesideLaws
pub mod DayLaws
pub mod MovedLaws
pub mod NamedForms
pub mod NamedNames
pub mod NamedParts
pub mod NamedRows
pub mod NamedTables
pub mod PositionsAnew
pub mod ReadingLaws
pub mod TouchLaws
mod UnitStepLaws
