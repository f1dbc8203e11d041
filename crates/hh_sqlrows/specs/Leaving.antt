-- What a call leaves of a database that it doesn't change, and what a crash may leave.
use Rattle.std.specs.Prelude.{◌≡◌, ◌⊎◌, IsTrue}
use Rattle.sqlite.specs.Effect.{Database}
use Rattle.sqlite.specs.State.{HasCleanDisk, State}
use Rattle.sqlite_trees.specs.Tree.{Trees}
use Rattle.hh_keyed_rows.specs.Content.{Content}
use Rattle.hh_keyed_rows.specs.Values.{version}
use Rattle.hh_sqlrows.specs.Holds.{Holds, TreesHold}

-- a connection that is open afterwards was open before, and its database is as it was
abbrev pub LeavesDatabase : State → State → Type 0
LeavesDatabase old new =
    IsTrue new.is_open → IsTrue old.is_open × (new.now ≡ old.now) × (new.committed ≡ old.committed)

-- a connection that is open afterwards was open before, and its database is as it was, if the disk has returned what was written
abbrev pub IsUndone : State → State → Type 0
IsUndone old new =
    HasCleanDisk new → IsTrue new.is_open → IsTrue old.is_open × (new.now ≡ old.now) × (new.committed ≡ old.committed)

-- these trees are those of a database for which `P` holds
abbrev pub MayStand : (Database → Type 0) → Trees → Type 0
MayStand P trees = (db : Database) × P db × (trees ≡ db.trees)

-- if the disk has returned what was written, a crash leaves what it would have left before of the open connection, or the last commit with
-- such a change
abbrev pub MayBecome : (Database → Database → Type 0) → State → State → Type 0
MayBecome Change old new =
    IsTrue old.is_open → HasCleanDisk new → (trees : Trees) → new.may_leave trees
    → old.may_leave trees ⊎ MayStand (Change old.committed) trees

-- A disk that has returned what was written had done so before. Whatever a crash leaves contains the content of the last commit of the open
-- connection.
abbrev pub KeepsHeld : State → State → Type 0
KeepsHeld old new = HasCleanDisk new → HasCleanDisk old
    × (IsTrue old.is_open → (content : Content) → Holds version content old.committed
    → (trees : Trees) → new.may_leave trees → TreesHold trees content)
