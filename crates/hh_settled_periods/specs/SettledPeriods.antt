-- Settlement Periods as the latest run of their date settled them.
use Rattle.std.specs.Prelude.{◌≡◌, ◌≤◌, ℕ, map, filter, Option, Some, None, IsFalse}
use Rattle.hh_rows.specs.declared.settlement_period.SettlementPeriod.{SettlementPeriod}
use Rattle.hh_rules.specs.History.{Registered}
use Rattle.hh_calc.specs.Terms.{Settled, settled_as}
use Rattle.hh_runs.specs.declared.run_key.RunKey.{RunKey}
use Rattle.hh_runs.specs.declared.summary.Summary.{Summary}
use Rattle.hh_states.specs.PeriodSettlement.{accounts_on}
use Rattle.hh_states.specs.Beside.{credit_row, is_among, is_credit_of, is_result_of}
use Rattle.hh_settled_periods.specs.declared.day_beside.DayBeside.{DayBeside}

-- a Settlement Period as a run settled it, by the rows of the run
abbrev pub result_beside : DayBeside → RunKey → ℕ → Settled
result_beside day run period =
    settled_as (map (λ e. e.1) (filter (is_result_of run period) day.results))
    (map credit_row (filter (is_credit_of run period) day.credits))

module _ (tables : Registered) (beside : DayBeside) (at : SettlementPeriod) where
  -- the latest run has this Settlement Period and settled it to this, with the accounts that the date has now; the period was not
  -- touched since
  pub record IsSameSince (run : RunKey) (summary : Summary) (s : Settled) : Type 0 where
    pub first : 1 ≤ at.period
    pub last : at.period ≤ summary.periods
    pub untouched : IsFalse (is_among beside.touched.items at)
    pub accounts : map (λ r. r.account) s.accounts ≡ accounts_on tables at.date
    pub settled : s ≡ result_beside beside run at.period

  -- the same for the latest run, if there is one; otherwise false
  abbrev pub IsSameAs : Option (RunKey × Summary) → Settled → Type 0
  IsSameAs None s = ⊥
  IsSameAs (Some (run, summary)) s = IsSameSince run summary s
