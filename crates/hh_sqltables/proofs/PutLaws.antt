-- A row is put by the text of a table.
use Rattle.std.proofs.Common.{◌≡◌, ◌++◌, ℕ, List, true, Ok, Result, OnOk, inl, inr}
use Rattle.sqlite_schema.specs.declared.schema.Schema.{Schema}
use Rattle.sqlite.specs.State.{ExecutesInside, State}
use Rattle.hh_sqltables.proofs.FormLaws.{inserts_by, puts_by}
use Rattle.hh_sqltables.proofs.UpdateFormLaws.{updates_by}
use Rattle.hh_sqltables.specs.Forms.{IsOfficeOf, PutsIn, TableForm}
use Rattle.hh_sqltables.specs.Texts.{IsFormIn, IsPut}

pub put_by : {K V E : Type 0} (schema : Schema) (form : TableForm K V) → IsFormIn schema form → (k : K) (v : V) (old new : State) → IsOfficeOf schema old.now → (sql : List ℕ) → IsPut schema form sql
    → (r : Result Unit E) → OnOk r ((form.key.fits k ≡ true) × (form.value.fits v ≡ true))
    → OnOk r ((count : ℕ) × ExecutesInside 0 sql (form.key.write k ++ form.value.write v) old new (Ok count)) → OnOk r (PutsIn schema form k v old.now new.now)
put_by schema form is_form k v old new is sql (inl replaces) r fits h = puts_by schema form is_form k v old new is sql replaces r fits h
put_by schema form is_form k v old new is sql (inr (inl inserts)) r fits h = inserts_by schema form is_form k v old new is sql inserts r fits h
put_by schema form is_form k v old new is sql (inr (inr updates)) r fits h = updates_by schema form is_form updates.0 k v old new is sql updates.1 r fits h
