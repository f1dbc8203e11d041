-- The runs that words name, and the reports that they ask for.
use Rattle.std.specs.Prelude.{ℕ, List, Option, Some, None, codes, bytes_eq, if◌then◌else◌}
use Rattle.hh_time.specs.DateText.{date_value}
use Rattle.hh_requests.specs.RunKinds.{run_kind_value}
use Rattle.hh_requests.specs.run_key.RunKey.{RunKey}
use Rattle.hh_requests.specs.run_kind.RunKind.{RunKind}
use Rattle.hh_requests.specs.declared.report.Report.{Report}
use Rattle.hh_requests.specs.declared.report.Report.TheVariants.{Balances, Day, Results}

-- the run of a date and a kind, if both are there
abbrev pub run_key_from : Option ℕ → Option RunKind → Option RunKey
run_key_from (Some date) (Some kind) = Some (record { date = date; kind = kind })
run_key_from _ _ = None

-- DATE KIND
abbrev pub run_key_value : List ℕ → List ℕ → Option RunKey
run_key_value date kind = run_key_from (date_value date) (run_kind_value kind)

-- the report about a run that a form asks for: `day` or `csv`
abbrev pub run_form_value : List ℕ → RunKey → Option Report
run_form_value form run =
    if bytes_eq form (codes "day") then Some (Day run)
    else if bytes_eq form (codes "csv") then Some (Results run)
    else None

-- the report that a form asks for: about a run if one is named, otherwise `balances`
abbrev pub form_value : List ℕ → Option RunKey → Option Report
form_value form (Some run) = run_form_value form run
form_value form None = if bytes_eq form (codes "balances") then Some Balances else None
