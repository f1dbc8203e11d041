-- One Settlement Period of a day, settled; and the periods of a day up to some place.
use Rattle.std.specs.Prelude.{◌≡◌, Option}
use Rattle.hh_rows.specs.declared.settlement_period.SettlementPeriod.{SettlementPeriod}
use Rattle.hh_rules.specs.History.{Registered}
use Rattle.hh_calc.specs.Limits.{is_within_limits}
use Rattle.hh_calc.specs.steps.Limits.{kept_where}
use Rattle.hh_calc.specs.Terms.{Settled}
use Rattle.hh_states.specs.DaySettlement.{settled_at}
use Rattle.hh_states.specs.PeriodSettlement.{terms_at}
use Rattle.hh_states.specs.Readiness.{AreTermsConsistent}
use Rattle.hh_store.specs.DayReads.{IsPeriodOf}
use Rattle.hh_store.specs.declared.day_data.PeriodState.{PeriodState}

-- A Settlement Period with this state has this outcome. It is the same for all that is registered and in force from which the state was
-- read, if what the period is settled from fits together. There is no settlement exactly if it would pass a limit.
abbrev pub SettlesPeriod : SettlementPeriod → PeriodState → Option (SettlementPeriod × Settled) → Type 0
SettlesPeriod at state outcome =
    (tables : Registered) → IsPeriodOf tables at state → AreTermsConsistent (terms_at tables at)
    → outcome ≡ kept_where (is_within_limits (terms_at tables at)) (settled_at tables at)
