use Rattle.std.proofs.Common.{◌≡◌, take}
use Rattle.std.specs.Prelude.{filter}
use Rattle.hh_kept_rows.specs.Keeping.{is_held}
use Rattle.hh_sqlparts.proofs.before_load.runs_held.Given as goal

-- the runs so far of the dates that the ranges hold
abbrev pub invariant-loop-run : goal.invariant-loop-run
invariant-loop-run l = l.held.items ≡ filter (λ e. is_held l.ranges e.0.date) (take l.run-index l.made)
