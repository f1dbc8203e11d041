use Rattle.std.proofs.Common.{◌≡◌, map, take}
use Rattle.hh_kept_rows.proofs.kept_register.KeptRegister.subsidiaries_of.Given as goal

-- the subsidiaries of the rows so far
abbrev pub invariant-loop-row : goal.invariant-loop-row
invariant-loop-row l = l.subsidiaries.items ≡ map (λ e. record { account = e.0.account; reallocation = e.1 }) (take l.row-index l.found)
