-- When a line of a script is given up for the store, given the store's count.
use Rattle.std.proofs.Common.{ℕ, ◌≤◌, Bool, List, [], ◌∷◌, arith, Result, Ok, Err, inl, inr}
use Rattle.hh_time.specs.Days.{Midnights}
use Rattle.hh_states.specs.States.{State}
use Rattle.hh_desk.specs.report.ReportStop.{ReportStop}
use Rattle.hh_desk.specs.report.ReportStop.TheVariants.{Refused, Write}
use Rattle.hh_desk.specs.Refusals.{CountsReportStop}
use Rattle.hh_host.specs.Views.{HostView}
use Rattle.hh_script.specs.Steps.{LoadFile, MakeRun, Serve, Step, WriteReport}
use Rattle.hh_desk.proofs.GivingUpLaws.{fault_then, fault_up, load_then, run_then}
use Rattle.hh_desk.proofs.ServedLaws.{served_then}
use Rattle.hh_session.specs.Course.{ScriptDoes, StepDoes}

-- a store counts no fewer refusals after a report
pub report_up : (old new : ℕ) {A : Type 0} (result : Result A ReportStop) → CountsReportStop result old new → old ≤ new
report_up old new (Ok x) same = omega (arith, same)
report_up old new (Err (Refused fault)) counts = fault_up old new fault counts
report_up old new (Err Write) same = omega (arith, same)

-- what is shown if the store may have failed where `fails` holds, is shown if it may have failed where `others` holds
module _ (fails others : Type 0) (implies : fails → others) (host : HostView) (midnight : Midnights) where
  pub step_then : (s : State) (step : Step) (done : Bool) (text : List ℕ) (t : State) → StepDoes host fails midnight s step done text t
      → StepDoes host others midnight s step done text t
  step_then s (LoadFile load) done text t (told, does, whole, is) = (told, load_then fails others implies midnight s host load told t does, whole, is)
  step_then s (MakeRun run) done text t (told, does, whole, is) = (told, run_then fails others implies midnight s run told t does, whole, is)
  step_then s (WriteReport asked) done text t (inl written, same) = (inl written, same)
  step_then s (WriteReport asked) done text t (inr (undone, (front, rest, fault, cut, up, is)), same) =
      (inr (undone, (front, rest, fault, cut, fault_then fails others implies fault up, is)), same)
  step_then s (Serve line) done text t (inl unserved) = inl unserved
  step_then s (Serve line) done text t (inr (port, is, whole, told, (arrivals, readings, brings, many, at, served))) =
      inr (port, is, whole, told, (arrivals, readings, brings, many, at, served_then fails others implies midnight arrivals readings s t served))

  pub script_then : (may : List Step → Bool → Type 0) (s : State) (steps : List Step) (text : List ℕ) (t : State)
      → ScriptDoes host fails midnight may s steps text t → ScriptDoes host others midnight may s steps text t
  script_then may s [] text t does = does
  script_then may s (step ∷ steps) text t (done, line, between, rest, fits, does, more, is) =
      (done, line, between, rest, fits, step_then s step done line between does, script_then may between steps rest t more, is)
