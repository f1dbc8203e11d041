-- How a run is made from the tables, step by step.
use Rattle.std.specs.Prelude.{◌≡◌, ℕ, ℤ, List, [], map, true, false, Option, Some, None, Result, Ok, Err, option_map}
use Rattle.std.specs.FinMap.{find}
use Rattle.std.specs.Option.{option_or}
use Rattle.hh_time.specs.declared.day.Day.{Day}
use Rattle.hh_time.specs.Days.{Midnights, is_over, period_count}
use Rattle.hh_names.specs.declared.fault.Fault.{Fault}
use Rattle.hh_names.specs.declared.fault.Refusal.TheVariants.{DayNotOver, MissingPrice}
use Rattle.hh_names.specs.Faults.{first_met, plain_fault}
use Rattle.hh_rows.specs.declared.settlement_period.SettlementPeriod.{SettlementPeriod}
use Rattle.hh_rules.specs.History.{Registered}
use Rattle.hh_calc.specs.declared.result.AccountRow.{AccountRow}
use Rattle.hh_calc.specs.Terms.{Settled}
use Rattle.hh_runs.specs.declared.run_kind.RunKind.{RunKind}
use Rattle.hh_runs.specs.declared.summary.Summary.{Summary}
use Rattle.hh_runs.specs.NextRun.{order_refusals}
use Rattle.hh_runs.specs.RunKinds.{run_kind_cmp}
use Rattle.hh_runs.specs.declared.run_key.RunKey.{RunKey}
use Rattle.hh_requests.specs.declared.reply.Reply.{Reply}
use Rattle.hh_requests.specs.declared.reply.Reply.TheVariants as reply
use Rattle.hh_states.specs.Changes.{RunChangeView, run_change}
use Rattle.hh_states.specs.Content.{Content, tables_of}
use Rattle.hh_states.specs.DaySettlement.{missing_meter, missing_price}
use Rattle.hh_states.specs.Reads.{results_in, runs_in}
use Rattle.hh_states.specs.States.{State}
use Rattle.hh_states.specs.Steps.{CanRun, after_run, missing_meter_fault, period_fault, settle_fault}
use Rattle.hh_store.specs.DayReads.{ArePeriodsOf}
use Rattle.hh_store.specs.declared.day_data.PeriodState.{PeriodState}
use Rattle.hh_day.specs.NewRuns.{IsWrittenFor, day_in}
use Rattle.hh_office.specs.Promises.{Represents, UnlessFailed}
use Rattle.hh_office.specs.Views.{OfficeView, midnight_of}

-- the fault by which the order of runs refuses a further run on a date that has these runs
abbrev pub order_fault : List (RunKind × Summary) → RunKind → Option Fault
order_fault runs kind = option_map plain_fault (first_met (order_refusals (map (λ r. r.0) runs) kind))

-- What is kept of a run among those of its date. If it does not exist, the order of runs refuses it, or it may be made.
abbrev pub TellsOrder : List (RunKind × Summary) → RunKind → Result (Option Summary) Fault → Type 0
TellsOrder runs kind (Ok found) = (found ≡ find run_kind_cmp kind runs) × (found ≡ None → order_fault runs kind ≡ None)
TellsOrder runs kind (Err fault) =
    UnlessFailed fault ((find run_kind_cmp kind runs ≡ None) × (order_fault runs kind ≡ Some fault))

-- by the order of runs, a run may be made on its date
abbrev pub IsNext : Content → RunKey → Type 0
IsNext content key =
    (find run_kind_cmp key.kind (runs_in content key.date) ≡ None) × (order_fault (runs_in content key.date) key.kind ≡ None)

-- what Settlement Periods lack: the first missing price, or otherwise the first missing reading
abbrev pub lack_fault : Registered → List SettlementPeriod → Option Fault
lack_fault tables periods =
    option_or (option_map (period_fault MissingPrice) (missing_price tables periods)) (option_map missing_meter_fault (missing_meter tables periods))

-- nothing is missing for these Settlement Periods, and `states` is what they are settled from, one for each
abbrev pub LacksNothing : Registered → List SettlementPeriod → List PeriodState → Type 0
LacksNothing tables periods states = (lack_fault tables periods ≡ None) × ArePeriodsOf tables periods states

-- something is missing for these Settlement Periods, unless the request was given up
abbrev pub Lacks : Registered → List SettlementPeriod → Fault → Type 0
Lacks tables periods fault = UnlessFailed fault (lack_fault tables periods ≡ Some fault)

-- a day is that of a date, has the date's periods, and is over at a moment
abbrev pub IsOverDay : Midnights → ℤ → ℕ → Day → Type 0
IsOverDay midnight moment date day =
    (day.date ≡ date) × (period_count midnight date ≡ day.count) × (is_over midnight date moment ≡ true)

-- a date is not over at a moment, or has no periods
abbrev pub IsEarly : Midnights → ℤ → ℕ → Fault → Type 0
IsEarly midnight moment date fault = (is_over midnight date moment ≡ false) × (fault ≡ plain_fault DayNotOver)

module _ (office : OfficeView) (moment : ℤ) (date : ℕ) where
  -- the Settlement Periods of a date are settled as `day` in each state that the office represents, and nothing speaks against it
  abbrev pub SettlesIn : List (SettlementPeriod × Settled) → Type 0
  SettlesIn day = (s : State) → Represents office s
      → (settle_fault (midnight_of office) s moment date ≡ None) × (day ≡ day_in (midnight_of office) s date)

  -- they are not settled for this reason, unless the request was given up
  abbrev pub RefusesIn : Fault → Type 0
  RefusesIn fault = (s : State) → Represents office s
      → UnlessFailed fault (settle_fault (midnight_of office) s moment date ≡ Some fault)

-- for each run for which the machine writes this, what is written makes the tables of the state after the run
abbrev pub WritesRun : OfficeView → OfficeView → RunChangeView → Type 0
WritesRun old new writes =
    (s : State) (moment : ℤ) (key : RunKey) → Represents old s → CanRun (midnight_of old) s moment key
    → writes ≡ run_change (midnight_of old) s key → new ≡ record old { content = tables_of (midnight_of old) (after_run s key) }

-- the rows of a date's run before a new one, in the tables of an office; none if there is no such run
abbrev pub rows_before : Content → Option RunKey → List (ℕ × AccountRow)
rows_before content None = []
rows_before content (Some run) = results_in content run

-- A run of these settled periods is made. `former` is the latest run of its date. What is written for the run goes into the tables, and the
-- reply is the run's summary.
pub record IsRunMade (old new : OfficeView) (key : RunKey) (day : List (SettlementPeriod × Settled)) (former : Option RunKey)
    (given : Reply) : Type 0 where
  pub writes : RunChangeView
  pub written : IsWrittenFor key day (rows_before old.content former) writes
  pub kept : WritesRun old new writes
  pub replied : given ≡ reply.Ran writes.key writes.summary
