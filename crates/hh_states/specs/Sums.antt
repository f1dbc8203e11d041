-- The sums of the postings of runs, for an account and for a run; and what a settled period has and adds up to.
use Rattle.std.specs.Prelude.{◌≡◌, ◌≢◌, ℕ, ◌==◌, ◌&&◌, ℤ, pos, ◌*ℤ◌, List, [], ◌∷◌, All, AllPairs, is_some, if◌then◌else◌, Some}
use Rattle.std.specs.List.{AllByRecursion}
use Rattle.std.specs.Ordering.{eq_by_cmp}
use Rattle.std.specs.Str.{bytes_eq}
use Rattle.hh_rules.specs.Totals.{total}
use Rattle.hh_rules.specs.Tables.{Table}
use Rattle.hh_rules.specs.Days.{Midnights}
use Rattle.hh_rules.specs.account.Account.{Account}
use Rattle.hh_rules.specs.values.Reading.{Reading}
use Rattle.hh_rules.specs.settlement_period.SettlementPeriod.{SettlementPeriod}
use Rattle.hh_rules.specs.History.{History, Registered}
use Rattle.hh_rules.specs.Lateness.{Timetable}
use Rattle.hh_calc.specs.declared.result.AccountRow.{AccountRow}
use Rattle.hh_calc.specs.Formulas.{if_same_account}
use Rattle.hh_calc.specs.Ready.{AreUnitsDistinct}
use Rattle.hh_calc.specs.Settled.{IsSettled, paid_by}
use Rattle.hh_calc.specs.Terms.{UnitDataView, PeriodDataView}
use Rattle.hh_runs.specs.DayNets.{day_net_of}
use Rattle.hh_runs.specs.declared.run_key.RunKey.{RunKey}
use Rattle.hh_states.specs.declared.run_keys.CreditKey.{CreditKey}
use Rattle.hh_states.specs.declared.run_keys.PostingKey.{PostingKey}
use Rattle.hh_states.specs.Content.{runs_with_former, tables_of}
use Rattle.hh_states.specs.DaySettlement.{day_net}
use Rattle.hh_states.specs.PeriodSettlement.{reading_of, settled, units_on}
use Rattle.hh_states.specs.Reads.{results_in}
use Rattle.hh_states.specs.Runs.{Run, latest_run, nets_of, periods_of, postings_after, run_key_cmp, seen_by, settled_by}
use Rattle.hh_states.specs.States.{State}
use Rattle.hh_states.specs.Steps.{IsReached, timetable_at}

-- the runs of a list that no later run of their date follows
abbrev pub latest_runs : List Run → List Run
latest_runs [] = []
latest_runs (run ∷ later) =
    if is_some (latest_run run.key.date later) then latest_runs later else run ∷ latest_runs later

module _ (timetable : Timetable) (s : State) where
  -- what all runs of a state post to an account
  abbrev pub posted : Account → ℤ
  posted a = total (λ r. day_net_of (postings_after timetable s.history r.0 r.1) a) (runs_with_former s)

  -- what the latest runs of all dates move to an account: the sum of its day nets in them
  abbrev pub moved_by_runs : Account → ℤ
  moved_by_runs a = total (λ run. day_net_of (nets_of timetable s.history (Some run)) a) (latest_runs s.runs)

-- the sum of postings to an account
abbrev pub posted_to : Account → Table PostingKey ℤ → ℤ
posted_to a postings = total (λ e. if_same_account a e.0.account e.1) postings

-- for each account, the postings in the tables of a reached state sum to what the latest runs of all dates move
abbrev pub PostingsTotal : Type 0
PostingsTotal = (midnight : Midnights) (s : State) (a : Account) → IsReached midnight s
    → posted_to a (tables_of midnight s).postings ≡ moved_by_runs (timetable_at midnight s) s a

-- the sum of the postings of a run
abbrev pub posted_by : RunKey → Table PostingKey ℤ → ℤ
posted_by run postings = total (λ e. if eq_by_cmp run_key_cmp e.0.run run then e.1 else pos 0) postings

-- the postings of each run in the tables of a reached state sum to zero
abbrev pub RunPostingsSumToZero : Type 0
RunPostingsSumToZero = (midnight : Midnights) (s : State) (run : RunKey) → IsReached midnight s
    → posted_by run (tables_of midnight s).postings ≡ pos 0

-- the day net of an account in a run is the sum of what it pays in the Settlement Periods that the run settles
abbrev pub DayNetsAreSums : Type 0
DayNetsAreSums =
    (timetable : Timetable) (history : History) (run : Run) (a : Account)
    → day_net_of (nets_of timetable history (Some run)) a ≡ day_net (settled_by timetable history run) a

-- no account is credited twice from a unit: its subsidiaries' accounts differ from each other and from its lead
abbrev pub CreditsEachOnce : UnitDataView → Type 0
CreditsEachOnce u = AllPairs (λ s t. s.account ≢ t.account) u.subsidiaries × All (λ s. s.account ≢ u.lead) u.subsidiaries

-- a period's settlement is what IsSettled says, if no unit occurs twice and no unit credits an account twice
abbrev pub SettlesEachPeriod : Type 0
SettlesEachPeriod =
    (p : PeriodDataView) → AreUnitsDistinct p → All CreditsEachOnce p.units → IsSettled p (settled p)

-- the sum of an amount over the rows of a Settlement Period, out of the rows of a run
abbrev pub period_total : (AccountRow → ℤ) → ℕ → List (ℕ × AccountRow) → ℤ
period_total amount period rows = total (λ r. if r.0 == period then amount r.1 else pos 0) rows

-- in the tables of a reached state, contracts sum to zero in each Settlement Period of each run
abbrev pub ContractsSumToZero : Type 0
ContractsSumToZero = (midnight : Midnights) (s : State) (run : RunKey) (period : ℕ) → IsReached midnight s
    → period_total (λ r. r.contracts) period (results_in (tables_of midnight s) run) ≡ pos 0

-- and so does what the accounts pay, charges and shares together
abbrev pub CashSumsToZero : Type 0
CashSumsToZero = (midnight : Midnights) (s : State) (run : RunKey) (period : ℕ) → IsReached midnight s
    → period_total paid_by period (results_in (tables_of midnight s) run) ≡ pos 0

-- the sum of what is credited from a unit in a Settlement Period of a run
abbrev pub credited_from : List ℕ → ℕ → RunKey → Table CreditKey ℤ → ℤ
credited_from unit period run credits =
    total (λ e. if eq_by_cmp run_key_cmp e.0.run run && (e.0.period == period) && bytes_eq e.0.unit unit then e.1 else pos 0) credits

-- A unit has a reading that counts in a Settlement Period. In a run, the credits from the unit in that period sum to the metered
-- energy of the reading times its loss multiplier.
pub record IsCreditedByReading (tables : Registered) (credits : Table CreditKey ℤ) (run : RunKey) (at : SettlementPeriod)
    (unit : List ℕ) : Type 0 where
  pub reading : Reading
  pub counting : reading_of tables (record { unit = unit; at = at }) ≡ Some reading
  pub exact : credited_from unit at.period run credits ≡ reading.metered *ℤ reading.tlm

-- In the tables of a reached state, this holds for each run, in each Settlement Period of the run's date, for each unit that was
-- registered for that date when the run was ordered.
abbrev pub EachUnitCredited : Type 0
EachUnitCredited = (midnight : Midnights) (s : State) → IsReached midnight s
    → AllByRecursion (λ r. let saw : Registered = seen_by (timetable_at midnight s) s.history r in
    AllByRecursion (λ at. AllByRecursion (λ e. IsCreditedByReading saw (tables_of midnight s).credits r.key at e.0)
    (units_on saw at.date)) (periods_of midnight r)) s.runs
