-- The parts of what is written for a run: the nets of accounts by rows, and the number of credits of a day's first period.
use Rattle.std.specs.Prelude.{◌≡◌, ℕ, ◌+ℤ◌, List, [], ◌∷◌, length}
use Rattle.hh_num.specs.Totals.{total}
use Rattle.hh_names.specs.declared.account.Account.{Account}
use Rattle.hh_rows.specs.declared.settlement_period.SettlementPeriod.{SettlementPeriod}
use Rattle.hh_calc.specs.declared.result.AccountRow.{AccountRow}
use Rattle.hh_calc.specs.Settled.{moved_by_row}
use Rattle.hh_calc.specs.Terms.{Settled}
use Rattle.hh_runs.specs.DayNets.{DayNets, day_net_of}

-- these are the day nets of accounts by these rows, under any keys
abbrev pub AreNetsOf : {K : Type 0} → List (K × AccountRow) → DayNets → Type 0
AreNetsOf rows nets = (a : Account) → day_net_of nets a ≡ total (λ e. moved_by_row a e.1) rows

-- the row is added to the net of its account, and the nets of the other accounts stay as they were
abbrev pub AddsRow : AccountRow → DayNets → DayNets → Type 0
AddsRow row old new = (a : Account) → day_net_of new a ≡ day_net_of old a +ℤ moved_by_row a row

-- how many credits the first Settlement Period of a day has
abbrev pub credit_count : List (SettlementPeriod × Settled) → ℕ
credit_count [] = 0
credit_count (q ∷ day) = length q.1.credits
