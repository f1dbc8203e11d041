pub mod Views
pub use Rattle.hh_calc.specs.declared.result
pub use Rattle.hh_runs.specs.declared.run_key
pub use Rattle.hh_runs.specs.declared.run_kind
pub use Rattle.hh_runs.specs.RunKinds
