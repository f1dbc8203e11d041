pub mod KeyLaws
pub use Rattle.hh_names.proofs.TotalLaws
