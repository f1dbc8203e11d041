use Rattle.std.proofs.Common.{◌≡◌, filter_map, take}
use Rattle.hh_states.specs.Reads.{result_in}
use Rattle.hh_kept_rows.proofs.run_rows.results_of.Given as goal

-- what was found among the rows so far
abbrev pub invariant-loop-key : goal.invariant-loop-key
invariant-loop-key l = l.found.items ≡ filter_map (result_in l.run) (take l.key-index l.rows)
