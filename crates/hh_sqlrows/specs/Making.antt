-- Making the tables of an office, one after the other: the database after some of them.
use Rattle.std.specs.Prelude.{ℕ, map, take, fold}
use Rattle.sqlite_schema.specs.declared.schema.Schema.{Schema}
use Rattle.sqlite_schema.specs.declared.schema.Table.{Table}
use Rattle.sqlite_catalog.specs.Change.{created}
use Rattle.sqlite.specs.Effect.{Database}
use Rattle.hh_sqltables.specs.Forms.{AreEmpty, IsOfficeOf}
use Rattle.hh_sqlrows.specs.OfficeSchema.{nothing, office_tables}

-- the schema after `count` tables are made; a statement names no tree
abbrev pub schema_up_to : ℕ → Schema
schema_up_to count = fold created nothing (take count (map (λ (t : Table). record t { tree = 0 }) office_tables))

-- the first `count` tables of an office are made, and have no rows
pub record IsMadeUpTo (count : ℕ) (db : Database) : Type 0 where
  pub is_office : IsOfficeOf (schema_up_to count) db
  pub empty : AreEmpty (schema_up_to count).tables db.trees
