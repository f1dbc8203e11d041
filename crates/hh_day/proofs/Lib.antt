mod AccountLaws
pub mod ConserveLaws
mod DifferenceLaws
pub mod EntryLaws
pub mod FitLaws
pub mod NetLaws
pub mod OneWayLaws
pub mod SettleLaws
pub mod SumLaws
pub mod WriteLaws
