use Rattle.std.proofs.Common.{◌≡◌, take, None}
use Rattle.std.specs.Prelude.{find, is_none}
use Rattle.hh_states.specs.PeriodSettlement.{reading_of}
use Rattle.hh_kept_rows.proofs.kept_register.KeptRegister.missing_meter_at.Given as goal

-- the units so far have a reading
abbrev pub invariant-loop-place : goal.invariant-loop-place
invariant-loop-place l = find (λ e. is_none (reading_of l.self (record { unit = e.0; at = l.at }))) (take l.place l.units) ≡ None
