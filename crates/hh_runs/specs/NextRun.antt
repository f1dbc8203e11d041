-- Which run may come next on a date.
use Rattle.std.specs.Prelude.{nat_lt, ◌==◌, List, [], ◌∷◌, length, Bool, ◌&&◌, if◌then◌else◌, Option, Some, None, Result, Ok, Err}
use Rattle.std.specs.List.{list_any}
use Rattle.hh_names.specs.declared.fault.Fault.{Fault}
use Rattle.hh_names.specs.declared.fault.Refusal.{Refusal}
use Rattle.hh_names.specs.declared.fault.Refusal.TheVariants.{NoInitialRun, RunOrder}
use Rattle.hh_names.specs.Faults.{first_met, plain_fault}
use Rattle.hh_runs.specs.declared.next_run.NextRun.{NextRun}
use Rattle.hh_runs.specs.declared.next_run.NextRun.TheVariants.{Kept, New}
use Rattle.hh_runs.specs.declared.run_kind.RunKind.{RunKind}
use Rattle.hh_runs.specs.declared.run_kind.RunKind.TheVariants.{SF}
use Rattle.hh_runs.specs.RunKinds.{run_kind_number}

-- whether a kind of run comes before another
abbrev pub is_earlier_kind : RunKind → RunKind → Bool
is_earlier_kind a b = nat_lt (run_kind_number a) (run_kind_number b)

-- the refusals of a further run of a date that has runs of these kinds, with their conditions, in the order of their numbers:
-- no run comes after one of a later kind, and the first run of a date is SF
abbrev pub order_refusals : List RunKind → RunKind → List (Refusal × Bool)
order_refusals done wanted =
    (RunOrder, list_any (is_earlier_kind wanted) done)
    ∷ (NoInitialRun, (length done == 0) && is_earlier_kind SF wanted)
    ∷ []

-- whether a kind is one of these
abbrev pub is_done : List RunKind → RunKind → Bool
is_done done wanted = list_any (λ kind. run_kind_number kind == run_kind_number wanted) done

-- a run is new unless it is refused
abbrev pub new_unless : Option Refusal → Result NextRun Fault
new_unless None = Ok New
new_unless (Some why) = Err (plain_fault why)

-- what becomes of a run of a kind that is asked for on a date that has runs of these kinds; a run that exists is kept
abbrev pub next_run : List RunKind → RunKind → Result NextRun Fault
next_run done wanted = if is_done done wanted then Ok Kept else new_unless (first_met (order_refusals done wanted))
