pub mod SettledPeriods
