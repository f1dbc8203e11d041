-- A Settlement Period that is accounted for and was not touched is as it would be settled now.
use Rattle.std.specs.Prelude.{◌≡◌, ◌≤◌, List, map, Some, IsTrue, IsFalse}
use Rattle.hh_rows.specs.declared.settlement_period.SettlementPeriod.{SettlementPeriod}
use Rattle.hh_calc.specs.Limits.{is_within_limits}
use Rattle.hh_runs.specs.declared.run_key.RunKey.{RunKey}
use Rattle.hh_runs.specs.declared.summary.Summary.{Summary}
use Rattle.hh_states.specs.Content.{Content}
use Rattle.hh_states.specs.PeriodSettlement.{accounts_on, settled, terms_at}
use Rattle.hh_states.specs.Beside.{are_days_accounted_for, is_among, latest_on, period_of_run}

-- Let days be accounted for. Take a Settlement Period of the latest run of its date that was not touched, and whose accounts are those
-- of the date now. It is as the rows would settle it now, and it passes no limit.
abbrev pub UntouchedIsSettled : Type 0
UntouchedIsSettled = (content : Content) (touched : List SettlementPeriod) (at : SettlementPeriod) (run : RunKey) (summary : Summary)
    → IsTrue (are_days_accounted_for content touched) → latest_on content at.date ≡ Some (run, summary)
    → 1 ≤ at.period → at.period ≤ summary.periods → IsFalse (is_among touched at)
    → map (λ r. r.account) (period_of_run content run at.period).accounts ≡ accounts_on content.registered at.date
    → (period_of_run content run at.period ≡ settled (terms_at content.registered at))
    × IsTrue (is_within_limits (terms_at content.registered at))

-- a Settlement Period is among these exactly if it is among those
abbrev pub HaveTheSame : List SettlementPeriod → List SettlementPeriod → Type 0
HaveTheSame these those = (at : SettlementPeriod) → is_among these at ≡ is_among those at
