pub mod AcceptedLaws
pub mod CalendarLaws
pub mod DateTextLaws
pub mod DayFacts
pub mod MidnightFacts
