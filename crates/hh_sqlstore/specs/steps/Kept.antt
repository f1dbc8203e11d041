-- Positions that are kept in an office's database, as its connection sees it.
use Rattle.std.specs.Prelude.{◌≡◌, true, Some, IsTrue}
use Rattle.sqlite.specs.State.{State}
use Rattle.hh_sqlrows.specs.Contents.{mark_in}
use Rattle.hh_sqlschema.specs.TakenOver.{IsTakenOver}

-- the connection was open and is open; everything is committed, and positions are kept, as before or from now on
pub record IsMarked (old new : State) : Type 0 where
  pub was_open : IsTrue old.is_open
  pub is_open : IsTrue new.is_open
  pub settled : new.now ≡ new.committed
  pub marked : mark_in new.now.trees ≡ Some true
  pub taken : IsTakenOver old.now new.now
