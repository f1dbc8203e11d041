-- What a statement leaves that may be refused by a constraint.
use Rattle.std.specs.Prelude.{◌≡◌, ℕ, List, Bool, true, false, Ok}
use Rattle.sqlite_value.specs.Order.{Row}
use Rattle.sqlite.specs.State.{ExecutesInside, State}

-- the statement was executed, or it left the database as it was
abbrev pub ExecutesOrLeaves : List ℕ → Row → State → State → Bool → Type 0
ExecutesOrLeaves sql params old new true = (count : ℕ) × ExecutesInside 0 sql params old new (Ok count)
ExecutesOrLeaves sql params old new false = new.now ≡ old.now
