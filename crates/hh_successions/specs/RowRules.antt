-- Rules by which rows are refused: the office's, and those of older versions.
use Rattle.std.specs.Prelude.{List, Bool}
use Rattle.hh_names.specs.declared.fault.Refusal.{Refusal}
use Rattle.hh_rows.specs.declared.rows.Row.{Row}
use Rattle.hh_rules.specs.declared.timing.Timing.{Timing}
use Rattle.hh_rules.specs.History.{Registered}
use Rattle.hh_rules.specs.Refusals.{refusals_of, whole_standing}

-- A rule of rows: why a row of this timing is refused, by what is registered and in force. The refusals are in the order of their
-- numbers, with their conditions.
abbrev pub RowRule : Type 0
RowRule = Registered → Timing → Row → List (Refusal × Bool)

-- the office's rule
abbrev pub office_rule : RowRule
office_rule tables timing r = refusals_of (whole_standing tables) timing r
