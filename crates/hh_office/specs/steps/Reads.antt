-- What the office reads of runs in its tables.
use Rattle.std.specs.Prelude.{ℕ, List, Option, option_map}
use Rattle.hh_runs.specs.declared.run_kind.RunKind.{RunKind}
use Rattle.hh_runs.specs.declared.summary.Summary.{Summary}
use Rattle.hh_runs.specs.declared.run_key.RunKey.{RunKey}
use Rattle.hh_states.specs.Runs.{last_of}

-- the date and the kind of the last of the runs of a date
abbrev pub latest_key : ℕ → List (RunKind × Summary) → Option RunKey
latest_key date runs = option_map (λ r. record { date = date; kind = r.0 }) (last_of runs)
