-- What readings of an office leave of it.
use Rattle.std.specs.Prelude.{◌≡◌, IsTrue}
use Rattle.sqlite.specs.State.{State}
use Rattle.hh_sqlrows.specs.Reads.{OfSettled}

-- A connection that is open afterwards was open before. An office with everything committed stays as it is.
pub record SelectsOnly (old new : State) : Type 0 where
  pub stood : IsTrue new.is_open → IsTrue old.is_open
  pub left : OfSettled old new ((new.now ≡ old.now) × (new.committed ≡ old.committed))
