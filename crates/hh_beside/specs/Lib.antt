pub mod DayLaws
pub mod Keeping
pub mod Laws
pub mod PositionLaws
