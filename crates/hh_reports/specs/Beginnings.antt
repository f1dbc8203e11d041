-- The text of a report after some of its rows begins the whole report.
use Rattle.std.specs.Prelude.{◌≡◌, ℕ, ◌≤◌, ℤ, List, ◌++◌, All}
use Rattle.std.specs.List.Sorted.{IsNonDecreasingBy}
use Rattle.hh_names.specs.declared.account.Account.{Account}
use Rattle.hh_reports.specs.declared.run.ReportedRun.{ReportedRun}
use Rattle.hh_reports.specs.DayReport.{day_report_begun, day_report_text}
use Rattle.hh_reports.specs.Exports.{balances_text, results_text}
use Rattle.hh_reports.specs.Writers.{Rows}

-- the text begins with this one
abbrev pub GoesOnFrom : List ℕ → List ℕ → Type 0
GoesOnFrom begun text = (rest : List ℕ) × (text ≡ begun ++ rest)

-- the results of some rows begin the results of these and later ones
abbrev pub ResultsGoOn : Type 0
ResultsGoOn = (run : ReportedRun) (rows later : Rows) → GoesOnFrom (results_text run rows) (results_text run (rows ++ later))

-- the balances of some parties begin the balances of these and later ones
abbrev pub BalancesGoOn : Type 0
BalancesGoOn = (balance : Account → ℤ) (parties later : List (List ℕ)) → GoesOnFrom (balances_text parties balance) (balances_text (parties ++ later) balance)

-- the text of a day report after some rows begins the report of these and later ones, if all come in the order of their Settlement Periods
abbrev pub DayGoesOn : Type 0
DayGoesOn =
    (run : ReportedRun) (rows later : Rows) → All (λ e. 1 ≤ e.0) rows → IsNonDecreasingBy (λ e. e.0) (rows ++ later)
    → GoesOnFrom (day_report_begun run rows) (day_report_text run (rows ++ later))
