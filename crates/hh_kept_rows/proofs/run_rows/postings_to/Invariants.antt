use Rattle.std.proofs.Common.{◌≡◌, filter_map, take}
use Rattle.hh_states.specs.Reads.{posting_to}
use Rattle.hh_kept_rows.proofs.run_rows.postings_to.Given as goal

-- what was found among the rows so far
abbrev pub invariant-loop-key : goal.invariant-loop-key
invariant-loop-key l = l.found.items ≡ filter_map (posting_to l.account) (take l.key-index l.rows)
