-- The part of what is registered and in force by which rows are judged.
use Rattle.std.specs.Prelude.{ℕ, List}
use Rattle.hh_rows.specs.declared.rows.Row.{Row}
use Rattle.hh_rules.specs.History.{Registered}
use Rattle.hh_rules.specs.RegisterView.{ServesFor}
use Rattle.hh_kept_rows.specs.Parts.{whole_of}

-- a part judges these rows as the whole does, however many minutes before their period notifications close
abbrev pub JudgesFor : List Row → Registered → Registered → Type 0
JudgesFor rows whole part = (lead_minutes : ℕ) → ServesFor rows (whole_of lead_minutes whole) (whole_of lead_minutes part)
