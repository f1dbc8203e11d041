-- The order of kinds of run is total, and two kinds that it finds equal are the same.
use Rattle.std.proofs.Common.{◌≡◌, ℕ, cond, refl, sym, ap, ◌∙◌}
use Rattle.std.specs.Prelude.{◌==◌}
use Rattle.std.specs.Cmp.{IsTotalOrder, nat_cmp_total, on_total}
use Rattle.std.proofs.lemmas.Map.Lookups.{CmpEqualImpliesEq, exact_unsigned}
use Rattle.hh_runs.specs.declared.run_kind.RunKind.{RunKind}
use Rattle.hh_runs.specs.declared.run_kind.RunKind.TheVariants.{SF, R1, R2, R3, RF, DF}
use Rattle.hh_runs.specs.RunKinds.{run_kind_cmp, run_kind_number}

-- the kind of run with this number, which is how many kinds come before it
abbrev run_kind_at : ℕ → RunKind
run_kind_at n = cond (n == 0) SF (cond (n == 1) R1 (cond (n == 2) R2 (cond (n == 3) R3 (cond (n == 4) RF DF))))

run_kind_at-number : (kind : RunKind) → run_kind_at (run_kind_number kind) ≡ kind
run_kind_at-number SF = refl
run_kind_at-number R1 = refl
run_kind_at-number R2 = refl
run_kind_at-number R3 = refl
run_kind_at-number RF = refl
run_kind_at-number DF = refl

pub run_kind_total : IsTotalOrder run_kind_cmp
run_kind_total = on_total run_kind_number nat_cmp_total

pub exact_run_kinds : CmpEqualImpliesEq run_kind_cmp
exact_run_kinds a b e =
    sym (run_kind_at-number a) ∙ ap run_kind_at (exact_unsigned (run_kind_number a) (run_kind_number b) e) ∙ run_kind_at-number b
