-- A Settlement Period has the same settlement by the contract volumes in force as by the net volumes of its accounts.
use Rattle.std.specs.Prelude.{◌≡◌, pos, List, map, All}
use Rattle.hh_rules.specs.Totals.{total}
use Rattle.hh_rules.specs.account.Account.{Account}
use Rattle.hh_rules.specs.values.Contract.{Contract}
use Rattle.hh_calc.specs.Formulas.{net_kwh, netted}
use Rattle.hh_calc.specs.Limits.{is_within_limits}
use Rattle.hh_calc.specs.Ready.{AreAccountsInOrder, AreInOrder, IsContractListed, IsNetVolume, IsReady}
use Rattle.hh_calc.specs.Terms.{PeriodDataView, Rows}
use Rattle.hh_states.specs.PeriodSettlement.{settled}

-- a period with its accounts' net volumes instead of its rows has the same settlement, and passes a limit in the same cases
abbrev pub NetsSettleAlike : Type 0
NetsSettleAlike = (p : PeriodDataView) → AreInOrder p
    → (settled (netted p) ≡ settled p) × (is_within_limits (netted p) ≡ is_within_limits p)

-- net volumes sum to zero if each seller and buyer is one of the accounts
abbrev pub NetsSumToZero : Type 0
NetsSumToZero = (accounts : List Account) (rows : List Contract) → AreAccountsInOrder accounts
    → All (IsContractListed accounts) rows → total (net_kwh rows) accounts ≡ pos 0

-- so a period that may be settled may be settled with its net volumes, if each is at most 100,000,000 MWh in size
abbrev pub NettedAreReady : Type 0
NettedAreReady = (p : PeriodDataView) (rows : List Contract) → p.contracts ≡ Rows rows → IsReady p
    → All IsNetVolume (map (net_kwh rows) p.accounts) → IsReady (netted p)
