-- What one row, and the end of a Settlement Period, add to a day report.
use Rattle.std.specs.Prelude.{ℕ, ◌+◌, ◌-◌, min, ◌==◌, nat_le, ℤ, pos, neg_ℤ, List, [], if◌then◌else◌}
use Rattle.std.specs.List.{flat_map, range_with_len}
use Rattle.hh_calc.specs.declared.result.AccountRow.{AccountRow}
use Rattle.hh_reports.specs.declared.run.ReportedRun.{ReportedRun}
use Rattle.hh_reports.specs.DayReport.{period_account_line, period_residual_line}

-- the line of a row, if its Settlement Period is one of the run
abbrev pub run_row_lines : ReportedRun → ℕ × AccountRow → List ℕ
run_row_lines run e = if nat_le e.0 run.periods then period_account_line e.0 e.1 else []

-- how many Settlement Periods of a run are before this one, or none for period 0
abbrev pub closed_before : ReportedRun → ℕ → ℕ
closed_before run period = min run.periods (period - 1)

-- the residual of a period that ends; only the first of them has charges
abbrev pub closing_line : ℕ → ℤ → ℕ → List ℕ
closing_line first charges period = period_residual_line period (neg_ℤ (if period == first then charges else pos 0))

-- the residuals of the periods after the closed ones, up to another number of periods
abbrev pub closing_lines : ℕ → ℤ → ℕ → List ℕ
closing_lines closed charges until = flat_map (closing_line (closed + 1) charges) (range_with_len (closed + 1) (until - closed))
