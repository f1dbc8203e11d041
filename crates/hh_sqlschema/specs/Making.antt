-- What making an office's database leaves.
use Rattle.std.specs.Prelude.{IsTrue}
use Rattle.sqlite.specs.State.{State, Survives}
use Rattle.hh_rows.specs.declared.settings.Settings.{Settings}
use Rattle.hh_sqlrows.specs.Holds.{IsNewOffice}
use Rattle.hh_sqlrows.specs.Leaving.{MayStand}

-- a crash leaves what it would have left before of the open connection, or the office that was made
abbrev pub MayMake : Settings → State → State → Type 0
MayMake kept old new =
    IsTrue old.is_open → Survives old new (MayStand (IsNewOffice kept))
