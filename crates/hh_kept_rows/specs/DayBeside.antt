-- What a Settlement Day is settled from if a store keeps something beside the tables. A Settlement Period may be taken over as the
-- latest run of its date settled it, if it was not touched since and the date's accounts are those of the run. Any other is settled
-- from net volumes if the positions of all its accounts are known, and from its rows if one of them is lost.
use Rattle.std.specs.Prelude.{◌≡◌, ◌⊎◌, ℕ, List, filter, All, Some, IsTrue, IsFalse}
use Rattle.std.specs.FinMap.{find}
use Rattle.std.specs.List.{AllZip}
use Rattle.std.specs.Ordering.{eq_by_cmp}
use Rattle.hh_rows.specs.declared.settlement_period.SettlementPeriod.{SettlementPeriod}
use Rattle.hh_rules.specs.History.{Registered}
use Rattle.hh_rules.specs.Positions.{position_key_cmp}
use Rattle.hh_rules.specs.declared.positions.PositionKey.{PositionKey}
use Rattle.hh_calc.specs.Ready.{HasNetVolumes}
use Rattle.hh_calc.specs.Terms.{Net, PeriodDataView}
use Rattle.hh_runs.specs.declared.run_key.RunKey.{RunKey}
use Rattle.hh_runs.specs.declared.summary.Summary.{Summary}
use Rattle.hh_states.specs.Content.{Content}
use Rattle.hh_states.specs.DaySettlement.{missing_meter, missing_price}
use Rattle.hh_states.specs.PeriodSettlement.{accounts_on, terms_at}
use Rattle.hh_states.specs.Runs.{run_key_cmp}
use Rattle.hh_states.specs.Beside.{Beside, agrees, is_among, latest_on}
use Rattle.hh_beside.specs.PositionLaws.{are_known, net_volumes_at}
use Rattle.hh_store.specs.declared.day_data.DayData.{DayData}
use Rattle.hh_store.specs.declared.day_data.PeriodState.{PeriodState}
use Rattle.hh_store.specs.declared.day_data.PeriodState.TheVariants.{Changed, Same}
use Rattle.hh_store.specs.DayReads.{IsDayData}
use Rattle.hh_kept_rows.specs.DayRows.{HasRowsOn}
use Rattle.hh_settled_periods.specs.declared.day_beside.DayBeside.{DayBeside}
pub use Rattle.hh_settled_periods.specs.SettledPeriods.{IsSameAs, IsSameSince, result_beside}

-- what is kept of a date: its latest run with the rows of that run, the touched Settlement Periods of the date, and its
-- positions
pub record IsBesideOf (content : Content) (beside : Beside) (date : ℕ) (day : DayBeside) : Type 0 where
  pub latest : day.latest ≡ latest_on content date
  pub results : (e : RunKey × Summary) → latest_on content date ≡ Some e
      → day.results ≡ filter (λ r. eq_by_cmp run_key_cmp r.0.run e.0) content.results
  pub credits : (e : RunKey × Summary) → latest_on content date ≡ Some e
      → day.credits ≡ filter (λ c. eq_by_cmp run_key_cmp c.0.run e.0) content.credits
  pub touched : (at : SettlementPeriod) → at.date ≡ date → is_among day.touched.items at ≡ is_among beside.touched at
  pub positions : (key : PositionKey) → key.at.date ≡ date
      → find position_key_cmp key day.positions ≡ find position_key_cmp key beside.positions

module _ (tables : Registered) (beside : DayBeside) (at : SettlementPeriod) where
  -- what a Settlement Period is settled from, with its accounts' positions instead of the contract volumes in force; all of
  -- them are known
  pub record IsNetBeside (p : PeriodDataView) : Type 0 where
    pub same : p ≡ record (terms_at tables at) { contracts = Net (net_volumes_at beside.positions at (accounts_on tables at.date)) }
    pub known : IsTrue (are_known beside.positions at (accounts_on tables at.date))
    pub sizes : HasNetVolumes p.contracts

  -- what a Settlement Period is settled from by the contract volumes in force; the position of one of its accounts is lost
  pub record IsByRows (p : PeriodDataView) : Type 0 where
    pub same : p ≡ terms_at tables at
    pub lost : IsFalse (are_known beside.positions at (accounts_on tables at.date))

  -- a Settlement Period is settled from this, by the rows or by the positions; or it is as the latest run settled it
  abbrev pub IsStateBeside : PeriodState → Type 0
  IsStateBeside (Changed p) = IsByRows p ⊎ IsNetBeside p
  IsStateBeside (Same s) = IsSameAs tables beside at beside.latest s

-- What is read of these Settlement Periods: the first that has no price, if there is one; the first reading that a unit
-- lacks, if there is one; and the state of each.
pub record IsDayBeside (tables : Registered) (beside : DayBeside) (periods : List SettlementPeriod) (day : DayData) : Type 0 where
  pub price : day.missing_price ≡ missing_price tables periods
  pub meter : day.missing_meter ≡ missing_meter tables periods
  pub states : AllZip (IsStateBeside tables beside) periods day.periods.items

-- If what is kept agrees with the tables: what is read of Settlement Periods from the rows of their date and from what is kept beside
-- them is what is read of them from all tables.
abbrev pub ReadByWhatIsBeside : Type 0
ReadByWhatIsBeside = (content : Content) (beside : Beside) → IsTrue (agrees content beside)
    → (date : ℕ) (part : Registered) (held : DayBeside)
    → HasRowsOn date content.registered part → IsBesideOf content beside date held
    → (periods : List SettlementPeriod) → All (λ at. at.date ≡ date) periods
    → (day : DayData) → IsDayBeside part held periods day → IsDayData content.registered periods day
