-- A database that is an office's.
use Rattle.sqlite.specs.Effect.{Database}
pub use Rattle.hh_sqltables.specs.Forms.{AreEmpty, RowidsRise}
use Rattle.hh_sqltables.specs.Forms.{IsOfficeOf}
use Rattle.hh_sqlrows.specs.OfficeSchema.{office}

-- the database has the tables of an office, it obeys their rules, and the rowids of each table rise
abbrev pub IsOffice : Database → Type 0
IsOffice = IsOfficeOf office

-- the database is an office's, and its tables have no rows
pub record IsEmptyOffice (db : Database) : Type 0 where
  pub is_office : IsOffice db
  pub empty : AreEmpty office.tables db.trees
