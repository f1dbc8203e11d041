-- The lines that ask for a report.
use Rattle.std.specs.Prelude.{ℕ, List, [], ◌∷◌, Option, Some, None}
use Rattle.hh_runs.specs.declared.run_key.RunKey.{RunKey}
use Rattle.hh_word_values.specs.report.Report.{Report}
use Rattle.hh_word_values.specs.Reports.{form_value, run_key_value}
use Rattle.hh_word_values.specs.Values.{shown_key_value}
use Rattle.hh_script.specs.declared.report.ReportLine.{ReportLine}

-- a report to be written: by whom it is asked for, and which
pub record ReportStep : Type 0 where
  pub key : List ℕ
  pub report : Report

-- the report that a line asks for
abbrev pub report_of : ReportLine → ReportStep
report_of l = record { key = l.key.now; report = l.report }

-- the report of a run in a form, if the run's words are right
abbrev pub asked_of_run : List ℕ → Option RunKey → Option Report
asked_of_run form (Some run) = form_value form (Some run)
asked_of_run form None = None

-- FORM [DATE KIND]
abbrev pub asked_value : List (List ℕ) → Option Report
asked_value (form ∷ []) = form_value form None
asked_value (form ∷ date ∷ kind ∷ []) = asked_of_run form (run_key_value date kind)
asked_value _ = None

-- the values of a line that asks for a report, if both are there
abbrev pub report_from : Option (List ℕ) → Option Report → Option ReportStep
report_from (Some key) (Some report) = Some (record { key = key; report = report })
report_from _ _ = None

-- KEY FORM [DATE KIND]
abbrev pub report_value : List (List ℕ) → Option ReportStep
report_value [] = None
report_value (key ∷ words) = report_from (shown_key_value key) (asked_value words)
