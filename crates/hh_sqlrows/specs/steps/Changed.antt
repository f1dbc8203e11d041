-- A database that a transaction has changed, as its connection sees it.
use Rattle.std.specs.Prelude.{◌≡◌, IsTrue}
use Rattle.sqlite.specs.Effect.{Database}
use Rattle.sqlite.specs.State.{State}
use Rattle.sqlite_schema.specs.declared.schema.Schema.{Schema}
use Rattle.hh_sqltables.specs.Forms.{IsOfficeOf}
use Rattle.hh_sqlrows.specs.OfficeSchema.{office}

-- The connection was open and is open. Everything is committed. If the database had the tables of a schema and everything was committed, it
-- was changed as `Change` says.
pub record IsChangedIn (schema : Schema) (Change : Database → Database → Type 0) (old new : State) : Type 0 where
  pub was_open : IsTrue old.is_open
  pub is_open : IsTrue new.is_open
  pub settled : new.now ≡ new.committed
  pub changed : IsOfficeOf schema old.now → Change old.now new.now

-- the same of an office's database
abbrev pub IsChangedBy : (Database → Database → Type 0) → State → State → Type 0
IsChangedBy = IsChangedIn office
