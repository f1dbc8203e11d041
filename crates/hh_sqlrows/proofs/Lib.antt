pub mod BecomingLaws
pub mod ColumnLaws
pub mod CommitLaws
pub mod MakeLaws
pub mod OrderFacts
pub mod RisingLaws
mod StatementFacts
pub mod TextFacts
pub use Rattle.hh_sqltables.proofs.FrameLaws
pub use Rattle.hh_sqltables.proofs.ManyLaws
