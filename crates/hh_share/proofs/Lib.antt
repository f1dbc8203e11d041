pub mod CountLaws
pub mod RankLaws
pub mod RankingLaws
pub mod SumLaws
pub mod QuotaLaws
pub mod DepartureLaws
pub mod ShareFacts
pub mod PennyLaws
mod Examples
pub use Rattle.hh_num.proofs.TotalLaws
