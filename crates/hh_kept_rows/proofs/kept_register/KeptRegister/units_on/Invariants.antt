use Rattle.std.proofs.Common.{◌≡◌, map, take}
use Rattle.std.specs.Prelude.{filter}
use Rattle.hh_rows.specs.DateRanges.{holds}
use Rattle.hh_kept_rows.specs.steps.DayRolls.{led_on}
use Rattle.hh_kept_rows.proofs.kept_register.KeptRegister.units_on.Given as goal

-- the units so far whose range has the date, as they are led on it
abbrev pub invariant-loop-unit : goal.invariant-loop-unit
invariant-loop-unit l = l.units.items ≡ map (led_on l.self l.date) (filter (λ e. holds e.1.range l.date) (take l.unit-index l.unit-items))
