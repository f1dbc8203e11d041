-- An office's database that is taken over, as its connection sees it.
use Rattle.std.specs.Prelude.{◌≡◌, IsTrue}
use Rattle.sqlite.specs.State.{State, Survives}
use Rattle.hh_rows.specs.declared.settings.Settings.{Settings}
use Rattle.hh_sqlrows.specs.Office.{IsOffice}
use Rattle.hh_sqlrows.specs.Holds.{HasSettings}
use Rattle.hh_sqlrows.specs.Values.{version}

-- everything is committed, and the database is an office's with these settings
pub record IsAdoptedFrom (kept : Settings) (s : State) : Type 0 where
  pub settled : s.now ≡ s.committed
  pub is_office : IsOffice s.now
  pub settings : HasSettings version kept s.now.trees

-- a crash leaves nothing that it would not have left before of the open connection
abbrev pub CrashAddsNothing : State → State → Type 0
CrashAddsNothing old new = IsTrue old.is_open → Survives old new (λ _. ⊥)
