-- A database that is taken over as it was, or from now on with positions.
use Rattle.std.specs.Prelude.{◌≡◌, ◌⊎◌, true, false, Some, IsTrue}
use Rattle.sqlite.specs.Effect.{Database}
use Rattle.sqlite.specs.State.{State}
use Rattle.hh_rows.specs.declared.settings.Settings.{Settings}
use Rattle.hh_sqlrows.specs.Forms.{rows_under_keys}
use Rattle.hh_sqlrows.specs.Contents.{mark_in, stored_content}
use Rattle.hh_sqlrows.specs.Leaving.{MayBecome}
use Rattle.hh_sqlrows.specs.Office.{IsOffice}
use Rattle.hh_sqlrows.specs.OfficeTables.{settings}

-- Positions and touched Settlement Periods are kept in an office's database in which none were kept. Its settings and its content are as
-- they were.
pub record KeepsBeside (old new : Database) : Type 0 where
  pub unmarked : mark_in old.trees ≡ Some false
  pub marked : mark_in new.trees ≡ Some true
  pub is_office : IsOffice new
  pub settings : rows_under_keys settings new.trees ≡ rows_under_keys settings old.trees
  pub content : (kept : Settings) → stored_content kept new.trees ≡ stored_content kept old.trees

-- the database is as it was, or positions are kept in it from now on
abbrev pub IsTakenOver : Database → Database → Type 0
IsTakenOver old new = (new ≡ old) ⊎ KeepsBeside old new

-- a connection that is open afterwards was open before, and its database is as it was, or positions are kept in it from now on
abbrev pub TakesOver : State → State → Type 0
TakesOver old new =
    IsTrue new.is_open → IsTrue old.is_open × IsTakenOver old.now new.now × IsTakenOver old.committed new.committed

-- if the disk has returned what was written, a crash leaves what it would have left before of the open connection, or the last commit with
-- positions that are kept
abbrev pub MayKeepBeside : State → State → Type 0
MayKeepBeside = MayBecome KeepsBeside
