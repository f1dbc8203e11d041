pub use Rattle.hh_states.proofs.KeyLaws
