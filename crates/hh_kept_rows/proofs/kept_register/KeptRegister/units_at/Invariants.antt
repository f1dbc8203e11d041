use Rattle.std.proofs.Common.{◌≡◌, take}
use Rattle.std.specs.Prelude.{filter_map}
use Rattle.hh_states.specs.PeriodSettlement.{unit_at}
use Rattle.hh_kept_rows.proofs.kept_register.KeptRegister.units_at.Given as goal

-- what the units so far are settled from
abbrev pub invariant-loop-place : goal.invariant-loop-place
invariant-loop-place l = l.found.items ≡ filter_map (unit_at l.self l.at) (take l.place l.units)
