-- A database that is taken from version 1 to version 2 contains what it did.
use Rattle.std.specs.Prelude.{◌||◌, false, not, unwrap_or}
use Rattle.std.specs.FinMap.{find}
use Rattle.std.proofs.Common.{◌≡◌, ◌≢◌, ◌∙◌, ℕ, List, IsTrue, length, map, Option, Some, arith, ap, refl, subst, sym}
use Rattle.sqlite.specs.Effect.{Database}
use Rattle.sqlite.specs.State.{State}
use Rattle.sqlite_schema.specs.declared.schema.Schema.{Schema}
use Rattle.sqlite_trees.specs.Tree.{Trees}
use Rattle.hh_rows.specs.declared.settings.Settings.{Settings}
use Rattle.hh_keyed_rows.specs.Beside.{agrees}
use Rattle.hh_keyed_rows.specs.Content.{Content}
use Rattle.hh_keyed_rows.specs.KeyedRows.{stored_entry, table_in}
use Rattle.hh_keyed_rows.specs.Values.{version}
use Rattle.hh_sqltables.specs.Forms.{TableForm, rows_under_keys}
use Rattle.hh_sqlrows.specs.Contents.{beside_in, is_in_step_in, mark_in, result_of}
use Rattle.hh_sqlrows.specs.Holds.{HasSettings, Holds}
use Rattle.hh_sqlrows.specs.Leaving.{LeavesDatabase}
use Rattle.hh_sqlrows.specs.OfficeSchema.{office, office_of_one}
use Rattle.hh_sqlrows.specs.OfficeTables.{contracts, credits, files, marks, meters, one_row_cmp, parties, period_prices, positions, postings, reallocations, references, results, runs, touched, units}
use Rattle.hh_sqlschema.specs.Adopted.{IsAdoptedFrom}
use Rattle.hh_sqlmigration.specs.Versions.{IsMigrated}
use Rattle.hh_sqlmigration.specs.steps.ToTwo.{BecomesTwo, IsTakenTo}

other_schema : office_of_one ≡ office → ⊥
other_schema same = let e : 16 ≡ 17 = ap (λ (s : Schema). length s.tables) same in omega (arith, e)

one_settings : (a b : Settings) → Some a ≡ Some b → a ≡ b
one_settings a b same = cc

module _ (old new : Database) (becomes : BecomesTwo old new) where
  kept : {K V : Type 0} (form : TableForm K V) → new.trees form.table.tree ≡ old.trees form.table.tree → rows_under_keys form new.trees ≡ rows_under_keys form old.trees
  kept form same = ap (λ rows. table_in form.order (stored_entry form.key form.value) rows) same

  marks_kept : mark_in new.trees ≡ mark_in old.trees
  marks_kept = ap (find one_row_cmp (record {})) (kept marks (becomes.others.1.1.1.1.1.1.1.1.1.1.1.1.1.1.1.0 (λ e. omega (arith, e))))

  beside_kept : beside_in new.trees ≡ beside_in old.trees
  beside_kept = λ i. record {
    positions = kept positions (becomes.others.1.1.1.1.1.1.1.1.1.1.1.1.1.0 (λ e. omega (arith, e))) i;
    touched = ap (map (λ e. e.0)) (kept touched (becomes.others.1.1.1.1.1.1.1.1.1.1.1.1.1.1.0 (λ e. omega (arith, e)))) i;
  }

  in_step_kept : (content : Content) → is_in_step_in content new.trees ≡ is_in_step_in content old.trees
  unfolding is_in_step_in
  in_step_kept content = λ i. not (unwrap_or (marks_kept i) false) || agrees content (beside_kept i)

  pub becomes_holds : (content : Content) → Holds 1 content old → Holds version content new
  becomes_holds content holds =
      let alike = holds.alike in
      let same : becomes.kept ≡ content.settings = one_settings becomes.kept content.settings (sym becomes.settings_of_one ∙ holds.settings) in
      record {
        of_version = (omega arith, omega arith);
        is_office = becomes.is_office;
        settings = subst (λ (s : Settings). HasSettings 2 s new.trees) same becomes.settings_of_two;
        leads = holds.leads ∙ sym becomes.leads;
        prices = holds.prices ∙ sym (kept period_prices (becomes.others.1.1.1.1.0 (λ e. omega (arith, e))));
        alike = record {
          parties = alike.parties ∙ sym (kept parties (becomes.others.1.0 (λ e. omega (arith, e))));
          units = alike.units ∙ sym (kept units (becomes.others.1.1.0 (λ e. omega (arith, e))));
          references = alike.references ∙ sym (kept references (becomes.others.1.1.1.1.1.0 (λ e. omega (arith, e))));
          meters = alike.meters ∙ sym (kept meters (becomes.others.1.1.1.0 (λ e. omega (arith, e))));
          contracts = alike.contracts ∙ sym (kept contracts (becomes.others.1.1.1.1.1.1.0 (λ e. omega (arith, e))));
          reallocations = alike.reallocations ∙ sym (kept reallocations (becomes.others.1.1.1.1.1.1.1.0 (λ e. omega (arith, e))));
          files = alike.files ∙ sym (kept files (becomes.others.1.1.1.1.1.1.1.1.0 (λ e. omega (arith, e))));
          runs = alike.runs ∙ sym (kept runs (becomes.others.1.1.1.1.1.1.1.1.1.0 (λ e. omega (arith, e))));
          results = alike.results ∙ sym (ap (map result_of) (kept results (becomes.others.1.1.1.1.1.1.1.1.1.1.0 (λ e. omega (arith, e)))));
          credits = alike.credits ∙ sym (kept credits (becomes.others.1.1.1.1.1.1.1.1.1.1.1.0 (λ e. omega (arith, e))));
          postings = alike.postings ∙ sym (kept postings (becomes.others.1.1.1.1.1.1.1.1.1.1.1.1.0 (λ e. omega (arith, e))));
        };
        in_step = holds.in_step ∙ sym (in_step_kept content);
      }

-- the step was made
pub migrated_by_step : (old new : State) → (IsTrue old.is_open → old.now ≡ old.committed) → IsTakenTo BecomesTwo old new → IsMigrated old new
migrated_by_step old new settled taken =
    let step : BecomesTwo old.committed new.committed =
    subst (λ (db : Database). BecomesTwo old.committed db) taken.settled (subst (λ (db : Database). BecomesTwo db new.now) (settled taken.was_open) taken.step) in
    record {
      was_open = taken.was_open;
      is_open = taken.is_open;
      settled = taken.settled;
      is_office = step.is_office;
      kept = step.kept;
      settings = step.settings_of_two;
      from_one = becomes_holds old.committed new.committed step;
      from_two = λ content holds. absurd (other_schema (sym step.from_one.schema ∙ holds.is_office.schema));
      mark = marks_kept old.committed new.committed step;
      beside = beside_kept old.committed new.committed step;
    }

-- the database was of the present version
pub present_before : (old new : State) → IsTrue new.is_open → (settings : Settings) → IsAdoptedFrom settings old → LeavesDatabase old new → IsMigrated old new
present_before old new is_open settings adopted left =
    let same = left is_open in
    let committed : old.now ≡ new.committed = adopted.settled ∙ sym same.2 in
    record {
      was_open = same.0;
      is_open = is_open;
      settled = same.1 ∙ committed;
      is_office = subst (λ (db : Database). Rattle.hh_sqlrows.specs.Office.IsOffice db) committed adopted.is_office;
      kept = settings;
      settings = subst (λ (db : Database). HasSettings version settings db.trees) committed adopted.settings;
      from_one = λ content holds. absurd (other_schema (sym holds.is_office.schema ∙ ap (λ (db : Database). db.schema) (sym adopted.settled) ∙ adopted.is_office.schema));
      from_two = λ content holds. same.2;
      mark = ap (λ (db : Database). mark_in db.trees) same.2;
      beside = ap (λ (db : Database). beside_in db.trees) same.2;
    }
