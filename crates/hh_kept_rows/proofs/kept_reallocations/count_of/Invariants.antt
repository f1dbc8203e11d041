use Rattle.std.proofs.Common.{◌≡◌, true}
use Rattle.std.specs.List.{AllWithin}
use Rattle.hh_kept_rows.specs.steps.KeptReallocations.{is_no_later}
use Rattle.hh_kept_rows.proofs.kept_reallocations.count_of.Given as goal

-- the reallocations so far are not later
abbrev pub invariant-loop-count : goal.invariant-loop-count
invariant-loop-count l = AllWithin (λ e. is_no_later l.key e ≡ true) l.rows 0 l.count
