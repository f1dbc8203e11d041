-- The tables of an office, made one after the other in a database that had none.
use Rattle.std.proofs.Common.{◌≡◌, ◌∙◌, ℕ, ◌+◌, List, [], ◌∷◌, Ok, Err, Result, OnOk, sym, subst}
use Rattle.sqlite_schema.specs.declared.schema.Schema.{Schema}
use Rattle.sqlite_schema.specs.declared.schema.Table.{Table}
use Rattle.sqlite_catalog.specs.Change.{KeepsRows}
use Rattle.sqlite_trees.specs.Tree.{Trees}
use Rattle.sqlite.specs.Effect.{Database}
use Rattle.hh_sqltables.specs.Forms.{AreEmpty, IsOfficeOf}
use Rattle.hh_sqltables.specs.Texts.{Defines, Makes}
use Rattle.hh_sqltables.proofs.CreateLaws.{all_more}
use Rattle.hh_sqlrows.specs.Making.{IsMadeUpTo, schema_up_to}
use Rattle.hh_sqlrows.specs.Office.{IsEmptyOffice}
use Rattle.hh_sqlrows.proofs.TextFacts.{all_made}

still_empty : (tables : List Table) (old new : Trees) → KeepsRows tables old new → AreEmpty tables old → AreEmpty tables new
still_empty [] old new kept empty = tt
still_empty (t ∷ tables) old new kept empty = (kept.0 ∙ empty.0, still_empty tables old new kept.1 empty.1)

-- one more table
pub made_one_more : {E : Type 0} (at : ℕ) {table : Table} {sql : List ℕ} → Defines (schema_up_to at) (schema_up_to (at + 1)) table sql → (old new : Database) (r : Result ℕ E) → IsMadeUpTo at old
    → OnOk r (Makes (schema_up_to at) (schema_up_to (at + 1)) table old new) → OnOk r (IsMadeUpTo (at + 1) new)
made_one_more at facts old new (Ok count) is made =
    let rest = still_empty (schema_up_to at).tables old.trees new.trees made.others is.empty in
    record { is_office = made.is_office; empty = subst (λ ts. AreEmpty ts new.trees) (sym facts.extends) (all_more (λ t. new.trees t.tree ≡ []) _ _ rest made.empty) }
made_one_more at facts old new (Err e) is made = tt

pub all_filled : (db : Database) → IsMadeUpTo 17 db → IsEmptyOffice db
all_filled db is = record {
  is_office = subst (λ (s : Schema). IsOfficeOf s db) all_made is.is_office;
  empty = subst (λ (s : Schema). AreEmpty s.tables db.trees) all_made is.empty;
}
