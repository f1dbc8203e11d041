-- What a statement makes of a table of an office.
use Rattle.std.specs.Prelude.{List}
use Rattle.sqlite.specs.Effect.{Database}
pub use Rattle.hh_sqltables.specs.Forms.{TableForm, entry_under, found_entry, rows_under_keys}
use Rattle.hh_sqltables.specs.Forms.{PutsAllIn}
use Rattle.hh_sqlrows.specs.OfficeSchema.{office}

abbrev pub PutsAll : {K V : Type 0} → TableForm K V → List (K × V) → Database → Database → Type 0
PutsAll = PutsAllIn office
