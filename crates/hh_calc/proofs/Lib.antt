pub mod CreditFacts
pub mod CreditLaws
pub mod NetLaws
pub mod OrderLaws
pub mod PeriodLaws
pub mod RowFacts
pub mod LedgerLaws
pub mod RowsFacts
pub mod SpreadLaws
pub mod SumFacts
pub mod SumLaws
pub mod WordFacts
mod Examples
mod ReadyLaws
