use Rattle.std.proofs.Common.{◌≡◌, take}
use Rattle.hh_kept_rows.specs.Keeping.{periods_of_runs}
use Rattle.hh_sqlparts.proofs.beside_anew.periods_of_runs.Given as goal

-- the Settlement Periods of the runs so far
abbrev pub invariant-loop-run : goal.invariant-loop-run
invariant-loop-run l = l.periods.items ≡ periods_of_runs (take l.run-index l.made)
