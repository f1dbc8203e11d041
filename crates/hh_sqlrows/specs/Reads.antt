-- What a call on an office leaves.
use Rattle.std.specs.Prelude.{Result}
use Rattle.sqlite.specs.declared.transaction.Transaction.{Transaction}
use Rattle.sqlite.specs.Effect.{Database}
use Rattle.sqlite.specs.Held.{Held}
use Rattle.sqlite.specs.State.{State}
use Rattle.sqlite_trees.specs.declared.store.Store.{Ghosts}
use Rattle.sqlite_trees.specs.Tree.{Trees}
use Rattle.hh_sqltables.specs.Frames.{FindsSettledIn, MakesIn, OfOfficeOf, ReadsOfficeOf}
pub use Rattle.hh_sqltables.specs.Frames.{FindsIn, Inside, IsHonest, LeavesNoMore, MakesByAnswerIn, OfSettledOf, Reads, ReadsSettledOf, StaysOpen, Stood, WritesInside}
use Rattle.hh_sqlrows.specs.OfficeSchema.{office}

-- `P` holds for a call on an office whose connection is open afterwards
abbrev pub OfOffice : State → State → Type 0 → Type 0
OfOffice = OfOfficeOf office

-- `P` holds for calls on an office with everything committed, whose connection is open afterwards
abbrev pub OfSettled : State → State → Type 0 → Type 0
OfSettled = OfSettledOf office

-- the call is one statement on an office
abbrev pub ReadsOffice : {X E : Type 0} → State → State → Result X E → Type 0
ReadsOffice = ReadsOfficeOf office

-- the call is any number of statements on an office with everything committed
abbrev pub ReadsSettled : {X E : Type 0} → State → State → Result X E → Type 0
ReadsSettled = ReadsSettledOf office

-- a call on an office: if it was answered, `Found` holds of the rows before it and of what it returned
abbrev pub FindsOffice : {S X E : Type 0} → Ghosts S → Held S → Held S → Result X E → (Trees → X → Type 0) → Type 0
FindsOffice = FindsIn office

-- calls on an office with everything committed: if they were answered, `Found` holds of the rows before them and of what they returned
abbrev pub FindsSettled : {S X E : Type 0} → Ghosts S → Held S → Held S → Result X E → (Trees → X → Type 0) → Type 0
FindsSettled = FindsSettledIn office

-- a call in a transaction on an office: if it was answered, `Made` holds of the database before it and after it
abbrev pub MakesOffice : {S X E : Type 0} → Ghosts S → Transaction S → Transaction S → Result X E → (Database → Database → Type 0) → Type 0
MakesOffice = MakesIn office

-- a call in a transaction on an office: if it was answered, `Made` holds of the database before it, of that after it and of what it returned
abbrev pub MakesByAnswer : {S X E : Type 0} → Ghosts S → Transaction S → Transaction S → Result X E → (Database → Database → X → Type 0) → Type 0
MakesByAnswer = MakesByAnswerIn office
