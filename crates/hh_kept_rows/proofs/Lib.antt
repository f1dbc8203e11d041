mod BesideLaws
mod ContractLaws
mod DayLaws
mod DayRowLaws
mod NamedLaws
mod OutputLaws
mod PartLaws
mod SoundLaws
mod UntilLaws
pub use Rattle.hh_beside.proofs.PositionKeys
pub use Rattle.hh_beside.proofs.PositionParts
