-- The rows of a run are for the accounts that their keys name.
use Rattle.std.proofs.Common.{◌≡◌, List, [], ◌∷◌, map, refl, sym, subst}
use Rattle.std.proofs.lemmas.List.Elements.{All-append, All-cons, All-nil}
use Rattle.hh_rows.specs.declared.settlement_period.SettlementPeriod.{SettlementPeriod}
use Rattle.hh_calc.specs.declared.result.AccountRow.{AccountRow}
use Rattle.hh_calc.specs.Terms.{Settled}
use Rattle.hh_runs.specs.declared.run_key.RunKey.{RunKey}
use Rattle.hh_states.specs.declared.run_keys.ResultKey.{ResultKey}
use Rattle.hh_states.specs.Changes.{RunChangeView}
use Rattle.hh_states.specs.Content.{result_entries, result_key}
use Rattle.hh_states.specs.Runs.{settled_by}
use Rattle.hh_states.specs.Steps.{new_run, timetable_at}
use Rattle.hh_sqlchanges.specs.OwnAccounts.{AreOfTheirAccounts, RowsOfTheirAccounts}

abbrev IsOfItsAccount : ResultKey × AccountRow → Type 0
IsOfItsAccount e = e.1.account ≡ e.0.account

period_of_own : (run : RunKey) (at : SettlementPeriod) (rows : List AccountRow) → AreOfTheirAccounts (map (λ r. (result_key run at r, r)) rows)
period_of_own run at [] = All-nil IsOfItsAccount
period_of_own run at (r ∷ rows) = All-cons IsOfItsAccount (result_key run at r, r) (map (λ q. (result_key run at q, q)) rows) refl (period_of_own run at rows)

entries_of_own : (run : RunKey) (day : List (SettlementPeriod × Settled)) → AreOfTheirAccounts (result_entries run day)
entries_of_own run [] = All-nil IsOfItsAccount
entries_of_own run (q ∷ day) = All-append IsOfItsAccount (map (λ r. (result_key run q.0 r, r)) q.1.accounts) (result_entries run day) (period_of_own run q.0 q.1.accounts) (entries_of_own run day)

pub of_their_accounts : RowsOfTheirAccounts
of_their_accounts midnight content w (s, moment, key, stands, can, is) = subst (λ (v : RunChangeView). AreOfTheirAccounts v.results) (sym is) (entries_of_own key (settled_by (timetable_at midnight s) s.history (new_run s key)))
