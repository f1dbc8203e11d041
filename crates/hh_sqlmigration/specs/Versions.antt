-- What a migration makes of an office's database.
use Rattle.std.specs.Prelude.{◌≡◌, IsTrue}
use Rattle.sqlite.specs.State.{State}
use Rattle.hh_rows.specs.declared.settings.Settings.{Settings}
use Rattle.hh_keyed_rows.specs.Content.{Content}
use Rattle.hh_keyed_rows.specs.Values.{version}
use Rattle.hh_sqlrows.specs.Contents.{beside_in, mark_in}
use Rattle.hh_sqlrows.specs.Holds.{HasSettings, Holds}
use Rattle.hh_sqlrows.specs.Leaving.{MayBecome}
use Rattle.hh_sqlrows.specs.Office.{IsOffice}

-- The connection was open and is open, and everything is committed. A database of version 1 has become one of version 2 with the same content.
-- One of version 2 is as it was. What is kept beside the content is as it was, too.
pub record IsMigrated (old new : State) : Type 0 where
  pub was_open : IsTrue old.is_open
  pub is_open : IsTrue new.is_open
  pub settled : new.now ≡ new.committed
  pub is_office : IsOffice new.committed
  pub kept : Settings
  pub settings : HasSettings version kept new.committed.trees
  pub from_one : (content : Content) → Holds 1 content old.committed → Holds version content new.committed
  pub from_two : (content : Content) → Holds version content old.committed → new.committed ≡ old.committed
  pub mark : mark_in new.committed.trees ≡ mark_in old.committed.trees
  pub beside : beside_in new.committed.trees ≡ beside_in old.committed.trees

-- if the disk has returned what was written, a crash leaves what it would have left before of the open connection, or the last commit as one
-- of version 2 with the same content
abbrev pub MayMigrate : State → State → Type 0
MayMigrate = MayBecome (λ old new. (content : Content) → Holds 1 content old → Holds version content new)
