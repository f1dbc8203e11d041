use Rattle.std.proofs.Common.{◌≡◌, take}
use Rattle.hh_sqlparts.specs.steps.DayParts.{ids_on}
use Rattle.hh_sqlparts.proofs.day_units.ids_on.Given as goal

-- the ids of the units so far whose range includes the date
abbrev pub invariant-loop-unit : goal.invariant-loop-unit
invariant-loop-unit l = l.ids.items ≡ ids_on l.date (take l.unit-index l.units)
