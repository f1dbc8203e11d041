-- What it comes to that the table of leads is made and written, and then the settings.
use Rattle.std.proofs.Common.{◌≡◌, ◌≢◌, ◌∙◌, ℕ, List, [], ◌∷◌, ◌++◌, Some, arith, filter_map, refl, ap, sym, subst}
use Rattle.std.specs.List.{AllByRecursion}
use Rattle.std.specs.FinMap.{find}
use Rattle.std.specs.FinMap.Entries.{find-put}
use Rattle.sqlite_catalog.specs.Change.{KeepsRows, next_tree}
use Rattle.sqlite_schema.specs.declared.schema.Table.{Table}
use Rattle.sqlite_tied.specs.Compute.{everything}
use Rattle.sqlite_trees.specs.Tree.{Trees}
use Rattle.sqlite.specs.Effect.{Database}
use Rattle.hh_tables.specs.Tables.{IsTable, put_all}
use Rattle.hh_tables.proofs.BehindLaws.{put_into_none}
use Rattle.hh_tables.proofs.MergeLaws.{true_from}
use Rattle.hh_tables.proofs.TableLaws.{is_sorted-in_key_order}
use Rattle.hh_names.proofs.AccountLaws.{bytes_total}
use Rattle.hh_rows.specs.Keys.{lead_key_cmp}
use Rattle.hh_rows.specs.declared.keys.LeadKey.{LeadKey}
use Rattle.hh_rows.specs.declared.rows.LeadTerm.{LeadTerm}
use Rattle.hh_rows.specs.declared.settings.Settings.{Settings}
use Rattle.hh_rows.proofs.KeyLaws.{lead_key_total}
use Rattle.hh_keyed_rows.specs.KeyedRows.{stored_entry, table_in}
use Rattle.hh_registrations.specs.Registrations.{one_lead_each}
use Rattle.hh_sqltables.specs.Forms.{PutsAllIn, PutsIn, TableForm, rows_under_keys}
use Rattle.hh_sqltables.specs.Texts.{Makes}
use Rattle.hh_sqlrows.specs.Holds.{HasSettings}
use Rattle.hh_sqltables.specs.Forms.{IsOfficeOf}
use Rattle.hh_sqlrows.specs.OfficeSchema.{leads_table, office, office_of_one, tables_of_one}
use Rattle.hh_sqlrows.specs.OfficeTables.{leads, one_row_cmp, settings, units}
use Rattle.hh_sqlrows.specs.facts.KeyOrders.{one_row_total}
use Rattle.hh_sqlmigration.specs.steps.ToTwo.{BecomesTwo}
use Rattle.hh_sqlmigration.specs.steps.Writes.{WritesTwo}
use Rattle.hh_sqlmigration.proofs.LeadsRise.{leads_rise}

next_is : next_tree office_of_one ≡ 32
unfolding everything
next_is = refl

-- the rows of a table whose tree is as it was are as they were
same_rows : {K V : Type 0} (form : TableForm K V) (old new : Trees) → new form.table.tree ≡ old form.table.tree → rows_under_keys form new ≡ rows_under_keys form old
same_rows form old new same = ap (λ rows. table_in form.order (stored_entry form.key form.value) rows) same

-- a tree that none of three changes writes is as it was
still : (tables : List Table) (old made led last : Trees) → KeepsRows tables old made → AllByRecursion (λ t. t.tree ≢ 32 → led t.tree ≡ made t.tree) tables
    → AllByRecursion (λ t. t.tree ≢ 0 → last t.tree ≡ led t.tree) tables → AllByRecursion (λ t. t.tree ≢ 32) tables
    → AllByRecursion (λ t. t.tree ≢ 0 → last t.tree ≡ old t.tree) tables
still [] old made led last k l s other = tt
still (t ∷ tables) old made led last k l s other = ((λ no_settings. s.0 no_settings ∙ l.0 other.0 ∙ k.0), still tables old made led last k.1 l.1 s.1 other.1)

but_last : {X : Type 0} (P : X → Type 0) (xs : List X) (x : X) → AllByRecursion P (xs ++ x ∷ []) → AllByRecursion P xs
but_last P [] x all = tt
but_last P (y ∷ xs) x all = (all.0, but_last P xs x all.1)

elsewhere : AllByRecursion (λ t. t.tree ≢ 32) tables_of_one
elsewhere = (λ e. omega (arith, e), (λ e. omega (arith, e), (λ e. omega (arith, e), (λ e. omega (arith, e), (λ e. omega (arith, e), (λ e. omega (arith, e), (λ e. omega (arith, e), (λ e. omega (arith, e), (λ e. omega (arith, e), (λ e. omega (arith, e), (λ e. omega (arith, e), (λ e. omega (arith, e), (λ e. omega (arith, e), (λ e. omega (arith, e), (λ e. omega (arith, e), (λ e. omega (arith, e), tt))))))))))))))))

module _ (entries : List (LeadKey × LeadTerm)) (kept : Settings) (table : Table) (old made led last : Database)
    (makes : Makes office_of_one office table old made) (leading : PutsAllIn office leads entries made led) (setting : PutsIn office settings (record {}) kept led last) where
  none_before : made.trees 32 ≡ []
  none_before = subst (λ n. made.trees n ≡ []) next_is makes.empty

  leads_are : rows_under_keys leads last.trees ≡ put_all leads.order entries []
  leads_are =
      same_rows leads led.trees last.trees (setting.others.1.1.1.1.1.1.1.1.1.1.1.1.1.1.1.1.0 (λ e. omega (arith, e)))
      ∙ leading.rows
      ∙ ap (λ rows. put_all leads.order entries (table_in leads.order (stored_entry leads.key leads.value) rows)) none_before

  pub written : WritesTwo entries kept old last
  written = record {
    is_office = setting.is_office;
    settings = ap (find one_row_cmp (record {})) setting.rows ∙ find-put one_row_cmp one_row_total (record {}) (record {}) kept (rows_under_keys settings led.trees);
    leads = leads_are;
    others = still tables_of_one old.trees made.trees led.trees last.trees makes.others (but_last (λ t. t.tree ≢ 32 → led.trees t.tree ≡ made.trees t.tree) tables_of_one leads_table leading.others)
        (but_last (λ t. t.tree ≢ 0 → last.trees t.tree ≡ led.trees t.tree) tables_of_one leads_table setting.others) elsewhere;
  }

-- one registration for each unit of a database is a table
one_lead_each_rises : (trees : Trees) → IsTable lead_key_cmp (one_lead_each (rows_under_keys units trees))
one_lead_each_rises trees =
    true_from _ (leads_rise (rows_under_keys units trees) (is_sorted-in_key_order bytes_total (filter_map (stored_entry units.key units.value) (trees units.table.tree))))

-- if these are one registration for each unit, the step is made
pub two_made : (old new : Database) (kept : Settings) (entries : List (LeadKey × LeadTerm)) → IsOfficeOf office_of_one old → HasSettings 1 kept old.trees → entries ≡ one_lead_each (rows_under_keys units old.trees)
    → WritesTwo entries kept old new → BecomesTwo old new
two_made old new kept entries is settings are writes = record {
  from_one = is;
  is_office = writes.is_office;
  kept = kept;
  settings_of_one = settings;
  settings_of_two = writes.settings;
  leads = writes.leads ∙ ap (λ es. put_all lead_key_cmp es []) are ∙ sym (put_into_none lead_key_total (one_lead_each (rows_under_keys units old.trees)) [] [] 0 refl refl refl (one_lead_each_rises old.trees));
  others = writes.others;
}
