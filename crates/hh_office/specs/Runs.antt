-- Runs that are ordered, and what becomes of them.
use Rattle.std.specs.Prelude.{ℤ, Option, Some, None}
use Rattle.hh_time.specs.Days.{Midnights}
use Rattle.hh_runs.specs.declared.summary.Summary.{Summary}
use Rattle.hh_runs.specs.declared.run_key.RunKey.{RunKey}
use Rattle.hh_requests.specs.declared.reply.Reply.TheVariants as reply
use Rattle.hh_states.specs.States.{State}
use Rattle.hh_states.specs.Steps.{after_run, kept_summary, new_summary, run_fault}
use Rattle.hh_office.specs.Transitions.{Transition, refused, unchanged}

module _ (midnight : Midnights) (s : State) where
  -- what becomes of a run that does not exist: it is made, unless it is refused
  abbrev pub made_or_refused : ℤ → RunKey → Transition
  made_or_refused moment key = elim (run_fault midnight s moment key) [
    | Some fault ↦ refused s fault
    | None ↦ record { reply = reply.Ran key (new_summary midnight s key); state = after_run s key }
  ]

  -- what becomes of a run, given the summary that is kept of it: a run that exists stays as it is
  abbrev pub run_beside : Option Summary → ℤ → RunKey → Transition
  run_beside (Some summary) moment key = unchanged s (reply.Ran key summary)
  run_beside None moment key = made_or_refused moment key

  -- what becomes of a run: first it is checked whether it exists
  abbrev pub run : ℤ → RunKey → Transition
  run moment key = run_beside (kept_summary midnight s key) moment key
