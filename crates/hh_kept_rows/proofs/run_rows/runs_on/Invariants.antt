use Rattle.std.proofs.Common.{◌≡◌, filter_map, take}
use Rattle.hh_states.specs.Reads.{summary_on}
use Rattle.hh_kept_rows.proofs.run_rows.runs_on.Given as goal

-- what was found among the rows so far
abbrev pub invariant-loop-key : goal.invariant-loop-key
invariant-loop-key l = l.found.items ≡ filter_map (summary_on l.date) (take l.key-index l.rows)
