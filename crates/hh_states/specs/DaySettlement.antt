-- A Settlement Day: its periods settled by what is registered and in force, what is missing for that, and the day nets.
use Rattle.std.specs.Prelude.{ℕ, zero, suc, List, [], ◌∷◌, ◌++◌, map, find, is_none, not, ℤ, Option}
use Rattle.std.specs.List.{flat_map}
use Rattle.hh_rules.specs.Totals.{total}
use Rattle.hh_rules.specs.account.Account.{Account}
use Rattle.hh_rules.specs.keys.UnitPeriod.{UnitPeriod}
use Rattle.hh_rules.specs.settlement_period.SettlementPeriod.{SettlementPeriod}
use Rattle.hh_rules.specs.History.{Registered}
use Rattle.hh_calc.specs.Limits.{is_within_limits}
use Rattle.hh_calc.specs.Settled.{moved_by_row}
use Rattle.hh_calc.specs.Terms.{Settled}
use Rattle.hh_runs.specs.DayNets.{DayNets}
use Rattle.hh_states.specs.PeriodSettlement.{price_of, reading_of, settled, terms_at, units_on}

-- the numbers from 1 to n
abbrev pub from_one_to : ℕ → List ℕ
from_one_to zero = []
from_one_to (suc n) = from_one_to n ++ suc n ∷ []

-- the first Settlement Periods of a date, so many of them
abbrev pub periods_on : ℕ → ℕ → List SettlementPeriod
periods_on date count = map (λ p. record { date = date; period = p }) (from_one_to count)

module _ (tables : Registered) where
  -- a Settlement Period with its settlement
  abbrev pub settled_at : SettlementPeriod → SettlementPeriod × Settled
  settled_at at = (at, settled (terms_at tables at))

  -- the units of a Settlement Period, in the order of their ids
  abbrev pub unit_periods_at : SettlementPeriod → List UnitPeriod
  unit_periods_at at = map (λ e. record { unit = e.0; at = at }) (units_on tables at.date)

  module _ (periods : List SettlementPeriod) where
    -- these Settlement Periods with their settlements
    abbrev pub settled_day : List (SettlementPeriod × Settled)
    settled_day = map settled_at periods

    -- the first of these Settlement Periods that has no price
    abbrev pub missing_price : Option SettlementPeriod
    missing_price = find (λ at. is_none (price_of tables at)) periods

    -- the first of these Settlement Periods in which a unit has no reading, with the first such unit
    abbrev pub missing_meter : Option UnitPeriod
    missing_meter = find (λ key. is_none (reading_of tables key)) (flat_map unit_periods_at periods)

    -- the first of these Settlement Periods whose settlement passes a limit
    abbrev pub too_large : Option SettlementPeriod
    too_large = find (λ at. not (is_within_limits (terms_at tables at))) periods

-- what an account pays in a settled period, negative if it is paid: its charge and its share
abbrev pub period_net : Account → Settled → ℤ
period_net a s = total (moved_by_row a) s.accounts

-- the day net of an account: the sum of what it pays in all the settled periods of a day
abbrev pub day_net : List (SettlementPeriod × Settled) → Account → ℤ
day_net day a = total (λ q. period_net a q.1) day

-- the day nets of these accounts, from the settled periods of a day
abbrev pub day_nets : List (SettlementPeriod × Settled) → List Account → DayNets
day_nets day accounts = map (λ a. (a, day_net day a)) accounts
