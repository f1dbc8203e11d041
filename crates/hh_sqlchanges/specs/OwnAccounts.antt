-- The rows of a run's accounts, each under a key that names its account.
use Rattle.std.specs.Prelude.{◌≡◌, List, All}
use Rattle.hh_time.specs.Days.{Midnights}
use Rattle.hh_calc.specs.declared.result.AccountRow.{AccountRow}
use Rattle.hh_states.specs.declared.run_keys.ResultKey.{ResultKey}
use Rattle.hh_states.specs.Content.{Content}
use Rattle.hh_states.specs.Changes.{IsRunFrom, RunChangeView}

-- each row is for the account that its key names
abbrev pub AreOfTheirAccounts : List (ResultKey × AccountRow) → Type 0
AreOfTheirAccounts rows = All (λ e. e.1.account ≡ e.0.account) rows

-- in a run that the machine makes, each row is for the account that its key names
abbrev pub RowsOfTheirAccounts : Type 0
RowsOfTheirAccounts = (midnight : Midnights) (content : Content) (w : RunChangeView)
    → IsRunFrom midnight content w → AreOfTheirAccounts w.results
