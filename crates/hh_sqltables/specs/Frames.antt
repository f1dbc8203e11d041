-- What a call leaves, whatever it is for: of a connection that it reads, and of a transaction in which it writes.
use Rattle.std.specs.Prelude.{◌≡◌, ⊤, false, Result, IfOk, OnOk, IsTrue}
use Rattle.sqlite_schema.specs.declared.schema.Schema.{Schema}
use Rattle.sqlite.specs.declared.transaction.Transaction.{Transaction}
use Rattle.sqlite.specs.Effect.{Database}
use Rattle.sqlite.specs.Held.{Held, state}
use Rattle.sqlite.specs.State.{HasCleanDisk, State, Survives}
use Rattle.sqlite_trees.specs.declared.store.Store.{Ghosts}
use Rattle.sqlite_trees.specs.Tree.{Trees}
use Rattle.hh_sqltables.specs.Forms.{IsOfficeOf}

-- ---- a call that reads

-- `P` holds for a call on a database with the tables of a schema, whose connection is open afterwards
abbrev pub OfOfficeOf : Schema → State → State → Type 0 → Type 0
OfOfficeOf schema old new P = IsTrue new.is_open → IsOfficeOf schema old.now → P

-- a connection that is open afterwards was open before
abbrev pub Stood : State → State → Type 0
Stood old new = IsTrue new.is_open → IsTrue old.is_open

-- a call that was answered leaves the connection open, if the disk has returned what was written
abbrev pub StaysOpen : {X E : Type 0} → State → State → Result X E → Type 0
StaysOpen old new result = HasCleanDisk new → OnOk result (IsTrue new.is_open)

-- a disk that has returned what was written had done so before
abbrev pub IsHonest : State → State → Type 0
IsHonest old new = HasCleanDisk new → HasCleanDisk old

-- if the disk has returned what was written, a crash leaves nothing that it would not have left before
abbrev pub LeavesNoMore : State → State → Type 0
LeavesNoMore old new = HasCleanDisk new → (trees : Trees) → new.may_leave trees → old.may_leave trees

-- The call reads. `Opened` says whether its connection has to be open before it, and `Stands` what has to hold of the database.
pub record Reads {X E : Type 0} (Opened Stands : Type 0) (old new : State) (result : Result X E) : Type 0 where
  pub stood : Stood old new
  -- with everything committed the database is as it was
  pub left : IsTrue new.is_open → Stands → old.now ≡ old.committed → (new.now ≡ old.now) × (new.committed ≡ old.committed)
  -- outside a transaction it stays outside
  pub outside : old.in_transaction ≡ false → new.in_transaction ≡ false
  pub stays : Opened → StaysOpen old new result
  pub honest : IsHonest old new
  -- no fault of the disk is forgotten, and only a fault shuts the connection
  pub faults : Survives old new (λ _. ⊤)
  pub crash : Opened → Stands → LeavesNoMore old new

-- the call is one statement on a database with the tables of a schema
abbrev pub ReadsOfficeOf : {X E : Type 0} → Schema → State → State → Result X E → Type 0
ReadsOfficeOf schema old new result = Reads ⊤ (IsOfficeOf schema old.now) old new result

-- `P` holds for calls on a database with the tables of a schema and with everything committed, whose connection is open afterwards
abbrev pub OfSettledOf : Schema → State → State → Type 0 → Type 0
OfSettledOf schema old new P = OfOfficeOf schema old new (old.now ≡ old.committed → P)

-- a database with the tables of a schema and with everything committed
abbrev pub IsSettledOf : Schema → State → Type 0
IsSettledOf schema old = IsOfficeOf schema old.now × (old.now ≡ old.committed)

-- the call is any number of statements on a database with the tables of a schema and with everything committed
abbrev pub ReadsSettledOf : {X E : Type 0} → Schema → State → State → Result X E → Type 0
ReadsSettledOf schema old new result = Reads (IsTrue old.is_open) (IsSettledOf schema old) old new result

-- A call on a database with the tables of a schema: if it was answered, `Found` holds of the rows before it and of what it returned.
abbrev pub FindsIn : {S X E : Type 0} → Schema → Ghosts S → Held S → Held S → Result X E → (Trees → X → Type 0) → Type 0
FindsIn schema g old new result Found =
    let before = state g old in
    OfOfficeOf schema before (state g new) (IfOk result (Found before.now.trees))

-- Calls on a database with the tables of a schema and with everything committed: if they were answered, `Found` holds of the rows before
-- them and of what they returned.
abbrev pub FindsSettledIn : {S X E : Type 0} → Schema → Ghosts S → Held S → Held S → Result X E → (Trees → X → Type 0) → Type 0
FindsSettledIn schema g old new result Found =
    let before = state g old in
    OfSettledOf schema before (state g new) (IfOk result (Found before.now.trees))

-- ---- a call that writes in a transaction

-- `P` holds for a statement that began in a transaction, if the disk has returned what was written
abbrev pub Inside : State → State → Type 0 → Type 0
Inside old new P = HasCleanDisk new → IsTrue old.in_transaction → P

-- a statement that was executed leaves its transaction under way
abbrev pub StaysInside : {X E : Type 0} → State → State → Result X E → Type 0
StaysInside old new result = Inside old new (OnOk result (IsTrue new.in_transaction))

-- a connection that is open afterwards was open before, and has the same last commit
abbrev pub KeepsCommit : State → State → Type 0
KeepsCommit old new = Inside old new (IsTrue new.is_open → IsTrue old.is_open × (new.committed ≡ old.committed))

-- a disk that has returned what was written had done so before, and a crash leaves nothing that it would not have left before
abbrev pub CommitsNothing : State → State → Type 0
CommitsNothing old new = Survives old new (λ _. ⊥)

-- The call writes in a transaction, whose connection it leaves in its transaction and with its last commit. A crash then leaves what it would have left before.
pub record WritesInside {S X E : Type 0} (g : Ghosts S) (old new : Transaction S) (result : Result X E) : Type 0 where
  pub same_reference : new.conn.ghost_name ≡ old.conn.ghost_name
  pub inside : StaysInside (state g old.conn.now) (state g new.conn.now) result
  pub kept : KeepsCommit (state g old.conn.now) (state g new.conn.now)
  pub survives : CommitsNothing (state g old.conn.now) (state g new.conn.now)

-- A call in a transaction on a database with the tables of a schema: if it was answered, `Made` holds of the database before it and after it.
abbrev pub MakesIn : {S X E : Type 0} → Schema → Ghosts S → Transaction S → Transaction S → Result X E → (Database → Database → Type 0) → Type 0
MakesIn schema g old new result Made =
    let before = state g old.conn.now in
    let after = state g new.conn.now in
    Inside before after (IsOfficeOf schema before.now → OnOk result (Made before.now after.now))

-- A call in a transaction on a database with the tables of a schema: if it was answered, `Made` holds of the database before it, of the
-- database after it and of what it returned.
abbrev pub MakesByAnswerIn : {S X E : Type 0} → Schema → Ghosts S → Transaction S → Transaction S → Result X E → (Database → Database → X → Type 0) → Type 0
MakesByAnswerIn schema g old new result Made =
    let before = state g old.conn.now in
    let after = state g new.conn.now in
    Inside before after (IsOfficeOf schema before.now → IfOk result (Made before.now after.now))
