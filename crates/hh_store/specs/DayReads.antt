-- What is read of a Settlement Day in order to settle it.
use Rattle.std.specs.Prelude.{◌≡◌, ◌⊎◌, ℕ, List, length, filter, Bool, true, false, None, IsTrue}
use Rattle.std.specs.List.{AllZip}
use Rattle.hh_states.specs.settlement_period.SettlementPeriod.{SettlementPeriod}
use Rattle.hh_states.specs.Limits.{is_within_limits}
use Rattle.hh_states.specs.Formulas.{netted}
use Rattle.hh_states.specs.Ready.{HasNetVolumes}
use Rattle.hh_states.specs.Terms.{PeriodDataView}
use Rattle.hh_states.specs.DaySettlement.{missing_meter, missing_price}
use Rattle.hh_states.specs.History.{Registered}
use Rattle.hh_states.specs.PeriodSettlement.{settled, terms_at}
use Rattle.hh_store.specs.declared.day_data.DayData.{DayData}
use Rattle.hh_store.specs.declared.day_data.PeriodState.{PeriodState}
use Rattle.hh_store.specs.declared.day_data.PeriodState.TheVariants.{Changed, Same}

-- a Settlement Period may have changed since a run settled it
abbrev pub is_changed : PeriodState → Bool
is_changed (Changed terms) = true
is_changed (Same s) = false

-- how many of these may have changed
abbrev pub count_changed : List PeriodState → ℕ
count_changed periods = length (filter is_changed periods)

-- the terms with the accounts' net volumes instead of the contract volumes in force; each is at most 100,000,000 MWh in size
pub record IsNetted (terms p : PeriodDataView) : Type 0 where
  pub same : p ≡ netted terms
  pub sizes : HasNetVolumes p.contracts

-- a Settlement Period with these terms is settled from this; or this is its settlement, and it is within the limits
abbrev pub IsStateOf : PeriodDataView → PeriodState → Type 0
IsStateOf terms (Changed p) = (p ≡ terms) ⊎ IsNetted terms p
IsStateOf terms (Same s) = (s ≡ settled terms) × IsTrue (is_within_limits terms)

-- the same for a Settlement Period, with its terms by the rows as they are now
abbrev pub IsPeriodOf : Registered → SettlementPeriod → PeriodState → Type 0
IsPeriodOf tables at state = IsStateOf (terms_at tables at) state

-- the same for each of these Settlement Periods
abbrev pub ArePeriodsOf : Registered → List SettlementPeriod → List PeriodState → Type 0
ArePeriodsOf tables = AllZip (IsPeriodOf tables)

-- What is read of these Settlement Periods: the first that has no price, if there is one, and the first reading that a unit
-- lacks, if there is one. If neither is missing, it is also what each is settled from, or its settlement.
pub record IsDayData (tables : Registered) (periods : List SettlementPeriod) (day : DayData) : Type 0 where
  pub price : day.missing_price ≡ missing_price tables periods
  pub meter : day.missing_meter ≡ missing_meter tables periods
  pub terms : missing_price tables periods ≡ None → missing_meter tables periods ≡ None → ArePeriodsOf tables periods day.periods.items
