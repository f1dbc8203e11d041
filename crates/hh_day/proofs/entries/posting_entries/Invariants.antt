use Rattle.std.proofs.Common.{◌≡◌, map, take}
use Rattle.hh_runs.specs.Postings.{entry_of}
use Rattle.hh_states.specs.Content.{posting_entries}
use Rattle.hh_day.proofs.entries.posting_entries.Given as goal

-- the entries of the postings so far
abbrev pub invariant-loop-posting : goal.invariant-loop-posting
invariant-loop-posting l = l.entries.items ≡ posting_entries l.run (map entry_of (take l.posting-index l.postings))
