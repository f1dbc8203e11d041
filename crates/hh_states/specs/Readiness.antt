-- What each Settlement Period is settled from fits together.
use Rattle.std.specs.Prelude.{All, List}
use Rattle.hh_rules.specs.Days.{Midnights}
use Rattle.hh_rules.specs.settlement_period.SettlementPeriod.{SettlementPeriod}
use Rattle.hh_rules.specs.History.{Registered}
use Rattle.hh_calc.specs.Ready.{AreUnitsDistinct, IsReady}
use Rattle.hh_calc.specs.Terms.{PeriodDataView}
use Rattle.hh_states.specs.PeriodSettlement.{terms_at}
use Rattle.hh_states.specs.States.{State}
use Rattle.hh_states.specs.Steps.{IsReached, registered_at}
use Rattle.hh_states.specs.Sums.{CreditsEachOnce}

-- What a period is settled from fits together: the period may be settled, no unit occurs twice, and no unit credits an account
-- twice.
pub record AreTermsConsistent (p : PeriodDataView) : Type 0 where
  pub ready : IsReady p
  pub units : AreUnitsDistinct p
  pub credits : All CreditsEachOnce p.units

-- what each of these Settlement Periods is settled from, by what is registered and in force, fits together
abbrev pub ArePeriodsConsistent : Registered → List SettlementPeriod → Type 0
ArePeriodsConsistent tables periods = All (λ at. AreTermsConsistent (terms_at tables at)) periods

-- in each state that the machine reaches, what each Settlement Period is settled from fits together
abbrev pub PeriodsReady : Type 0
PeriodsReady = (midnight : Midnights) (s : State) (at : SettlementPeriod) → IsReached midnight s
    → AreTermsConsistent (terms_at (registered_at midnight s) at)
