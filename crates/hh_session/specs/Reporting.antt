-- What comes of the lines of a script that ask for a report.
use Rattle.std.specs.Prelude.{◌≡◌, ◌⊎◌, ℕ, Bool, true, false, List, [], ◌++◌, Result, Ok, Err}
use Rattle.hh_time.specs.Days.{Midnights}
use Rattle.hh_names.specs.declared.fault.Fault.{Fault}
use Rattle.hh_names.specs.declared.fault.Refusal.{Refusal}
use Rattle.hh_names.specs.Faults.{plain_fault}
use Rattle.hh_states.specs.States.{State}
use Rattle.hh_desk.specs.Reports.{report_for}
use Rattle.hh_script.specs.Reports.{ReportStep}
use Rattle.hh_desk.specs.GivingUp.{GivesUpWhere}
use Rattle.hh_session.specs.Lines.{refusal_line}

-- what is written for a report: its text, or the line of its refusal
abbrev pub report_written : Result (List ℕ) Refusal → List ℕ
report_written (Ok text) = text
report_written (Err why) = refusal_line (plain_fault why)

-- a report is written, and not refused
abbrev pub is_written : Result (List ℕ) Refusal → Bool
is_written (Ok text) = true
is_written (Err why) = false

-- what may be written of a report before it is given up: a beginning of its text
abbrev pub report_begun : Result (List ℕ) Refusal → List ℕ
report_begun (Ok text) = text
report_begun (Err why) = []

-- The store may have failed only if `fails` holds.
module _ (fails : Type 0) where
  -- a report was given up: a beginning of it was written, and then the line that tells why
  abbrev pub IsGivenUp : Result (List ℕ) Refusal → List ℕ → Type 0
  IsGivenUp report text =
      (front rest : List ℕ) × (fault : Fault)
      × (report_begun report ≡ front ++ rest) × GivesUpWhere fails fault × (text ≡ front ++ refusal_line fault)

  -- `text` was written for a report, and `done` says whether the report was written to its end
  abbrev pub GoesOut : Result (List ℕ) Refusal → Bool → List ℕ → Type 0
  GoesOut report done text = ((done ≡ is_written report) × (text ≡ report_written report)) ⊎ ((done ≡ false) × IsGivenUp report text)

  -- whether a line that asks for a report is done in a state, and what it writes
  abbrev pub ReportDoes : Midnights → State → ReportStep → Bool → List ℕ → Type 0
  ReportDoes midnight s step done text = GoesOut (report_for midnight s step.key step.report) done text
