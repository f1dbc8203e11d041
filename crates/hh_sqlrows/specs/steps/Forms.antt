-- What a statement makes of a table of an office, as the proofs of the crates above say it.
use Rattle.std.specs.Prelude.{Bool}
use Rattle.sqlite.specs.Effect.{Database}
use Rattle.hh_sqltables.specs.Forms.{PutsIn, RemovesIn, TableForm}
pub use Rattle.hh_sqltables.specs.Forms.{KeepsOthersIn, PutsAllOrLeavesIn}
use Rattle.hh_sqlrows.specs.OfficeSchema.{office}

abbrev pub Puts : {K V : Type 0} → TableForm K V → K → V → Database → Database → Type 0
Puts = PutsIn office

abbrev pub Removes : {K V : Type 0} → TableForm K V → (K → Bool) → Database → Database → Type 0
Removes = RemovesIn office
