pub mod AccountLaws
pub mod AsciiLaws
pub mod ByteFacts
pub mod WordFacts
pub use Rattle.hh_num.proofs.TotalLaws
