-- What making a table makes of a database that has the tables before it, whose rows they keep.
use Rattle.std.proofs.Common.{◌≡◌, ◌∙◌, ℕ, List, [], ◌∷◌, ◌++◌, false, None, Ok, Err, Result, OnOk, sym, ap, subst}
use Rattle.std.specs.List.{AllByRecursion}
use Rattle.sqlite_schema.specs.declared.schema.Schema.{Schema}
use Rattle.sqlite_schema.specs.declared.schema.Table.{Table}
use Rattle.sqlite_schema.specs.declared.command.Command.TheVariants.{CreateTable}
use Rattle.sqlite_catalog.specs.Change.{created, next_tree, KeepsRows}
use Rattle.sqlite_trees.specs.Tree.{Trees}
use Rattle.sqlite_trees.specs.View.{IsShaped}
use Rattle.sqlite_trees.specs.declared.store.Shape.TheVariants as shape
use Rattle.sqlite.specs.Does.{Tally, lacks_sequence}
use Rattle.sqlite.specs.Effect.{Database}
use Rattle.sqlite.specs.State.{State, Executes, ExecutesInside, Writes}
use Rattle.sqlite.specs.declared.error.Error.{Error}
use Rattle.sqlite.proofs.Callers.{runs_as}
use Rattle.hh_keyed_rows.proofs.PutLaws.{went, same_value}
use Rattle.hh_sqltables.specs.Forms.{IsOfficeOf}
use Rattle.hh_sqltables.specs.Texts.{Defines, Makes}

pub all_more : {X : Type 0} (P : X → Type 0) (xs : List X) (x : X) → AllByRecursion P xs → P x → AllByRecursion P (xs ++ x ∷ [])
all_more P [] x all one = (one, tt)
all_more P (y ∷ xs) x all one = (all.0, all_more P xs x all.1 one)

-- tables that keep their rows have rowids that rise, as before
still_rise : (tables : List Table) (old new : Trees) → KeepsRows tables old new → AllByRecursion (λ t. IsShaped shape.Table (old t.tree)) tables → AllByRecursion (λ t. IsShaped shape.Table (new t.tree)) tables
still_rise [] old new kept up = tt
still_rise (t ∷ tables) old new kept up = (subst (IsShaped shape.Table) (sym kept.0) up.0, still_rise tables old new kept.1 up.1)

module _ (before after : Schema) (table : Table) (sql : List ℕ) (facts : Defines before after table sql) (old new : State) where
  makes : (count : ℕ) → IsOfficeOf before old.now → Executes sql [] old new (Ok count) → Makes before after table old.now new.now
  makes count is h =
      let has = is.schema in
      let w = subst (λ t. Writes old new None CreateTable t [] count) facts.whole (runs_as sql [] old new before has CreateTable facts.command facts.plain count h) in
      let all = went w.changed in
      let first = went all.1 in
      let made = first.1 in
      let both : Ok made.table ≡ Ok table = sym made.defined ∙ facts.defined in
      let same : made.table ≡ table = cc in
      let schema_is : first.0.schema ≡ after = made.is ∙ ap (λ s. created s made.table) has ∙ ap (created before) same ∙ facts.makes in
      let no_sequence : lacks_sequence first.0.schema ≡ false = ap lacks_sequence schema_is ∙ facts.uncounted in
      let now : new.now ≡ first.0 = ap (λ (p : Tally × Database). p.1) (same_value all.2) ∙ same_value (rw no_sequence at first.2) in
      let one : new.now.trees (next_tree before) ≡ [] = ap (λ (d : Database). d.trees (next_tree before)) now ∙ subst (λ s. first.0.trees (next_tree s) ≡ []) has made.empty in
      let kept : KeepsRows before.tables old.now.trees new.now.trees = subst (λ (d : Database). KeepsRows before.tables old.now.trees d.trees) (sym now) (subst (λ (s : Schema). KeepsRows s.tables old.now.trees first.0.trees) has made.others) in
      let rest = still_rise before.tables old.now.trees new.now.trees kept is.rising in
      let every = subst (λ (ts : List Table). AllByRecursion (λ t. IsShaped shape.Table (new.now.trees t.tree)) ts) (sym facts.extends) (all_more (λ t. IsShaped shape.Table (new.now.trees t.tree)) _ _ rest (subst (IsShaped shape.Table) (sym one) (tt, tt))) in
      record {
        is_office = record { schema = ap (λ (d : Database). d.schema) now ∙ schema_is; sound = w.sound; rising = every };
        empty = one;
        others = kept;
      }

  pub makes_inside : (r : Result ℕ Error) → IsOfficeOf before old.now → ExecutesInside 0 sql [] old new r → OnOk r (Makes before after table old.now new.now)
  makes_inside (Ok count) is h = makes count is h.0
  makes_inside (Err e) is h = tt
