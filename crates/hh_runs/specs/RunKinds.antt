-- Kinds of run: the codes that name them, and their order.
use Rattle.std.specs.Prelude.{ℕ, List, [], ◌∷◌, Option, codes, bytes_eq}
use Rattle.std.specs.List.{find}
use Rattle.std.specs.Ordering.{nat_cmp, on}
use Rattle.std.specs.declared.cmp.Ordering.{Ordering}
use Rattle.hh_runs.specs.declared.run_kind.RunKind.{RunKind}
use Rattle.hh_runs.specs.declared.run_kind.RunKind.TheVariants.{SF, R1, R2, R3, RF, DF}

-- the kinds of run, in the order in which a date has them
abbrev pub all_run_kinds : List RunKind
all_run_kinds = SF ∷ R1 ∷ R2 ∷ R3 ∷ RF ∷ DF ∷ []

-- the code that names a kind of run
abbrev pub run_kind_code : RunKind → List ℕ
run_kind_code SF = codes "SF"
run_kind_code R1 = codes "R1"
run_kind_code R2 = codes "R2"
run_kind_code R3 = codes "R3"
run_kind_code RF = codes "RF"
run_kind_code DF = codes "DF"

-- the kind of run that a code names
unfoldable pub run_kind_value : List ℕ → Option RunKind
run_kind_value code = find (λ kind. bytes_eq code (run_kind_code kind)) all_run_kinds

-- how many kinds of run come before this one
abbrev pub run_kind_number : RunKind → ℕ
run_kind_number SF = 0
run_kind_number R1 = 1
run_kind_number R2 = 2
run_kind_number R3 = 3
run_kind_number RF = 4
run_kind_number DF = 5

-- kinds of run in the order in which a date has them
abbrev pub run_kind_cmp : RunKind → RunKind → Ordering
run_kind_cmp = on run_kind_number nat_cmp
