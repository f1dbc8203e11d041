-- The day report of a run.
use Rattle.std.specs.Prelude.{ℕ, ◌-◌, min, ◌==◌, nat_le, ℤ, neg_ℤ, List, [], ◌∷◌, ◌++◌, fold, map, filter_map, Option, Some, None, codes, decimal, if◌then◌else◌}
use Rattle.std.specs.List.{flat_map, range_with_len}
use Rattle.hh_num.specs.Fixed.{flush_right}
use Rattle.hh_num.specs.Totals.{total}
use Rattle.hh_time.specs.DateText.{date_text}
use Rattle.hh_names.specs.declared.account.Account.{Account}
use Rattle.hh_calc.specs.declared.result.AccountRow.{AccountRow}
use Rattle.hh_runs.specs.RunKinds.{run_kind_code}
use Rattle.hh_reports.specs.declared.run.ReportedRun.{ReportedRun}
use Rattle.hh_reports.specs.Fields.{cash_of, energies_of, energy_text, flush_left, pence_text, spaced_line}
use Rattle.hh_names.specs.Accounts.{account_text}
use Rattle.hh_reports.specs.Nets.{nets_from_rows}

-- `DAY REPORT DATE KIND`
unfoldable pub title_line : ReportedRun → List ℕ
title_line run = spaced_line (codes "DAY" ∷ codes "REPORT" ∷ date_text run.date ∷ run_kind_code run.kind ∷ [])

-- the heads of the columns
unfoldable pub heads_line : List ℕ
heads_line = spaced_line (
    flush_right 3 (codes "PER") ∷ flush_left 12 (codes "ACCOUNT")
    ∷ flush_right 20 (codes "CREDITED") ∷ flush_right 20 (codes "BALANCING") ∷ flush_right 20 (codes "CONTRACTS") ∷ flush_right 20 (codes "IMBALANCE")
    ∷ flush_right 14 (codes "CHARGE") ∷ flush_right 14 (codes "SHARE") ∷ [])

-- the period, the account, its energies and its cash
unfoldable pub period_account_line : ℕ → AccountRow → List ℕ
period_account_line period row = spaced_line (
    flush_right 3 (decimal period) ∷ flush_left 12 (account_text row.account)
    ∷ map (λ e. flush_right 20 (energy_text e)) (energies_of row) ++ map (λ c. flush_right 14 (pence_text c)) (cash_of row))

-- the period and its residual
unfoldable pub period_residual_line : ℕ → ℤ → List ℕ
period_residual_line period pence = spaced_line (flush_right 3 (decimal period) ∷ flush_left 12 (codes "RESIDUAL") ∷ flush_right 14 (pence_text pence) ∷ [])

-- an account and its day net
unfoldable pub net_line : Account × ℤ → List ℕ
net_line net = spaced_line (codes "NET" ∷ flush_left 12 (account_text net.0) ∷ flush_right 16 (pence_text net.1) ∷ [])

-- a row without its period, if it is of this one
abbrev pub row_of_period : ℕ → ℕ × AccountRow → Option AccountRow
row_of_period period e = if e.0 == period then Some e.1 else None

-- the rows of a Settlement Period
abbrev pub rows_of_period : ℕ → List (ℕ × AccountRow) → List AccountRow
rows_of_period period rows = filter_map (row_of_period period) rows

-- a line for each account, then the residual, which is minus the sum of the charges
unfoldable pub period_lines : ℕ → List AccountRow → List ℕ
period_lines period rows = flat_map (period_account_line period) rows ++ period_residual_line period (neg_ℤ (total (λ row. row.charge) rows))

-- the lines of so many Settlement Periods
abbrev pub periods_lines : ℕ → List (ℕ × AccountRow) → List ℕ
periods_lines count rows = flat_map (λ period. period_lines period (rows_of_period period rows)) (range_with_len 1 count)

-- the day report of a run with these rows: the lines of its periods, then the day net of each account
unfoldable pub day_report_text : ReportedRun → List (ℕ × AccountRow) → List ℕ
day_report_text run rows =
    title_line run ++ heads_line ++ periods_lines run.periods rows ++ flat_map net_line (nets_from_rows rows) ++ codes "END\n"

-- the Settlement Period of the last row, or 0 if there is none
abbrev pub last_period : List (ℕ × AccountRow) → ℕ
last_period rows = fold (λ _ e. e.0) 0 rows

-- the sum of the charges of a Settlement Period
abbrev pub charges_in : ℕ → List (ℕ × AccountRow) → ℤ
charges_in period rows = total (λ row. row.charge) (rows_of_period period rows)

-- the lines of the accounts of a Settlement Period, or none if the run doesn't have that many periods
abbrev pub accounts_in : ReportedRun → ℕ → List (ℕ × AccountRow) → List ℕ
accounts_in run period rows = if nat_le period run.periods then flat_map (period_account_line period) (rows_of_period period rows) else []

-- the text of the day report so far, if these rows came in the order of their periods: the lines of the periods before the last row's, and the account lines of the last row's
unfoldable pub day_report_begun : ReportedRun → List (ℕ × AccountRow) → List ℕ
day_report_begun run rows =
    title_line run ++ heads_line ++ periods_lines (min run.periods (last_period rows - 1)) rows ++ accounts_in run (last_period rows) rows
