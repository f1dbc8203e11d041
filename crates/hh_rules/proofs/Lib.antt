mod Examples
mod FileLaws
pub mod HistoryLaws
mod JudgeFacts
mod PercentFacts
pub mod PositionLaws
pub mod RowLaws
pub mod ServingLaws
pub mod StandingLaws
pub mod SumFacts
mod WalkLaws
pub use Rattle.hh_tables.proofs.TableLaws
pub use Rattle.hh_names.proofs.AccountLaws
