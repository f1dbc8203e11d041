-- Whether an office was just made, as its connection sees it.
use Rattle.std.specs.Prelude.{◌≡◌, IsTrue}
use Rattle.sqlite.specs.State.{State}
use Rattle.hh_rows.specs.declared.settings.Settings.{Settings}
use Rattle.hh_sqlrows.specs.Holds.{IsNewOffice}

-- an office was just made and committed, and its connection is open
pub record IsMadeIn (kept : Settings) (s : State) : Type 0 where
  pub is_open : IsTrue s.is_open
  pub settled : s.now ≡ s.committed
  pub is_new : IsNewOffice kept s.committed
