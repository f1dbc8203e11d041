-- The tables of an office that was just made contain only its settings and the mark that positions are kept.
use Rattle.std.specs.Prelude.{◌||◌, not, unwrap_or}
use Rattle.std.proofs.Common.{◌≡◌, ◌≢◌, ◌∙◌, ℕ, List, [], ◌∷◌, true, false, map, Some, refl, sym, ap, subst, arith}
use Rattle.std.specs.List.{AllByRecursion}
use Rattle.std.specs.FinMap.{find, put}
use Rattle.sqlite_schema.specs.declared.schema.Schema.{Schema}
use Rattle.sqlite_schema.specs.declared.schema.Table.{Table}
use Rattle.sqlite_trees.specs.Tree.{Trees}
use Rattle.sqlite.specs.Effect.{Database, IsDatabase}
use Rattle.hh_rows.specs.declared.settings.Settings.{Settings}
use Rattle.hh_sqlrows.specs.KeyedRows.{stored_entry, table_in}
use Rattle.hh_sqlrows.specs.Forms.{TableForm, rows_under_keys}
use Rattle.hh_sqlrows.specs.steps.Forms.{Puts}
use Rattle.hh_sqlrows.specs.Making.{IsMadeUpTo}
use Rattle.hh_sqlrows.specs.Office.{AreEmpty, IsEmptyOffice}
use Rattle.hh_sqlrows.specs.OfficeSchema.{nothing, office}
use Rattle.hh_sqlrows.specs.OfficeTables.{contracts, credits, files, leads, marks, meters, one_row_cmp, parties, period_prices, positions, postings, reallocations, references, results, runs, settings, touched, units}
use Rattle.hh_sqlrows.specs.Beside.{agrees}
use Rattle.hh_sqlrows.specs.Content.{Content, empty_content}
use Rattle.hh_sqlrows.specs.Contents.{beside_in, content_of, is_in_step_in, mark_in, result_of}
use Rattle.hh_sqlrows.specs.Holds.{IsNewOffice}

-- in an empty database no table is made yet
pub none_made : (db : Database) → db.schema ≡ nothing → IsDatabase db → IsMadeUpTo 0 db
none_made db is sound = record { is_office = record { schema = is; sound = sound; rising = tt }; empty = tt }

-- a table without rows is empty
no_rows : {K V : Type 0} (form : TableForm K V) (trees : Trees) → trees form.table.tree ≡ [] → rows_under_keys form trees ≡ []
no_rows form trees none = ap (λ rows. table_in form.order (stored_entry form.key form.value) rows) none

-- a tree that neither of two changes writes is still empty
still_empty : (one other : ℕ) (tables : List Table) (first second last : Trees) → AllByRecursion (λ t. t.tree ≢ one → second t.tree ≡ first t.tree) tables → AllByRecursion (λ t. t.tree ≢ other → last t.tree ≡ second t.tree) tables → AreEmpty tables first → AllByRecursion (λ t. t.tree ≢ one → t.tree ≢ other → last t.tree ≡ []) tables
still_empty one other [] first second last kept kept_too none = tt
still_empty one other (t ∷ tables) first second last kept kept_too none =
    ((λ a b. kept_too.0 b ∙ kept.0 a ∙ none.0), still_empty one other tables first second last kept.1 kept_too.1 none.1)

module _ (kept : Settings) (first second last : Database) (empty : IsEmptyOffice first) (set : Puts settings (record {}) kept first second) (marked : Puts marks (record {}) true second last) where
  all_still : AllByRecursion (λ t. t.tree ≢ 0 → t.tree ≢ 30 → last.trees t.tree ≡ []) office.tables
  all_still = still_empty 0 30 office.tables first.trees second.trees last.trees set.others marked.others empty.empty

  settings_stand : find one_row_cmp (record {}) (rows_under_keys settings last.trees) ≡ Some kept
  settings_stand =
      let same : rows_under_keys settings last.trees ≡ rows_under_keys settings second.trees = ap (λ rows. table_in settings.order (stored_entry settings.key settings.value) rows) (marked.others.0 (λ e. omega (arith, e))) in
      ap (find one_row_cmp (record {})) (same ∙ set.rows ∙ ap (put one_row_cmp (record {}) kept) (no_rows settings first.trees empty.empty.0))

  mark_stands : mark_in last.trees ≡ Some true
  mark_stands =
      let none = set.others.1.1.1.1.1.1.1.1.1.1.1.1.1.1.1.0 (λ e. omega (arith, e)) ∙ empty.empty.1.1.1.1.1.1.1.1.1.1.1.1.1.1.1.0 in
      ap (find one_row_cmp (record {})) (marked.rows ∙ ap (put one_row_cmp (record {}) true) (no_rows marks second.trees none))

  -- the tables have no rows
  nothing_held : content_of kept last.trees ≡ empty_content kept
  nothing_held = λ i. record {
    settings = kept;
    registered = record {
      parties = no_rows parties last.trees (all_still.1.0 (λ e. omega (arith, e)) (λ e. omega (arith, e))) i;
      units = no_rows units last.trees (all_still.1.1.0 (λ e. omega (arith, e)) (λ e. omega (arith, e))) i;
      leads = no_rows leads last.trees (all_still.1.1.1.1.1.1.1.1.1.1.1.1.1.1.1.1.0 (λ e. omega (arith, e)) (λ e. omega (arith, e))) i;
      references = no_rows references last.trees (all_still.1.1.1.1.1.0 (λ e. omega (arith, e)) (λ e. omega (arith, e))) i;
      meters = no_rows meters last.trees (all_still.1.1.1.0 (λ e. omega (arith, e)) (λ e. omega (arith, e))) i;
      prices = no_rows period_prices last.trees (all_still.1.1.1.1.0 (λ e. omega (arith, e)) (λ e. omega (arith, e))) i;
      contracts = no_rows contracts last.trees (all_still.1.1.1.1.1.1.0 (λ e. omega (arith, e)) (λ e. omega (arith, e))) i;
      reallocations = no_rows reallocations last.trees (all_still.1.1.1.1.1.1.1.0 (λ e. omega (arith, e)) (λ e. omega (arith, e))) i;
    };
    files = no_rows files last.trees (all_still.1.1.1.1.1.1.1.1.0 (λ e. omega (arith, e)) (λ e. omega (arith, e))) i;
    runs = no_rows runs last.trees (all_still.1.1.1.1.1.1.1.1.1.0 (λ e. omega (arith, e)) (λ e. omega (arith, e))) i;
    results = map result_of (no_rows results last.trees (all_still.1.1.1.1.1.1.1.1.1.1.0 (λ e. omega (arith, e)) (λ e. omega (arith, e))) i);
    credits = no_rows credits last.trees (all_still.1.1.1.1.1.1.1.1.1.1.1.0 (λ e. omega (arith, e)) (λ e. omega (arith, e))) i;
    postings = no_rows postings last.trees (all_still.1.1.1.1.1.1.1.1.1.1.1.1.0 (λ e. omega (arith, e)) (λ e. omega (arith, e))) i;
    is_in_step = true;
  }

  -- and nothing is kept beside them
  nothing_beside : beside_in last.trees ≡ record { positions = []; touched = [] }
  nothing_beside = λ i. record {
    positions = no_rows positions last.trees (all_still.1.1.1.1.1.1.1.1.1.1.1.1.1.0 (λ e. omega (arith, e)) (λ e. omega (arith, e))) i;
    touched = map (λ e. e.0) (no_rows touched last.trees (all_still.1.1.1.1.1.1.1.1.1.1.1.1.1.1.0 (λ e. omega (arith, e)) (λ e. omega (arith, e))) i);
  }

  -- which agrees with them
  agreeing : is_in_step_in (empty_content kept) last.trees ≡ true
  unfolding is_in_step_in
  agreeing = (λ i. not (unwrap_or (mark_stands i) false) || agrees (empty_content kept) (nothing_beside i)) ∙ refl

  pub new_office : IsNewOffice kept last
  new_office = record {
    holds = record {
      of_version = (omega arith, omega arith);
      is_office = marked.is_office;
      settings = settings_stand;
      leads = sym (ap (λ (c : Content). c.registered.leads) nothing_held);
      prices = sym (ap (λ (c : Content). c.registered.prices) nothing_held);
      alike = record {
        parties = sym (ap (λ (c : Content). c.registered.parties) nothing_held);
        units = sym (ap (λ (c : Content). c.registered.units) nothing_held);
        references = sym (ap (λ (c : Content). c.registered.references) nothing_held);
        meters = sym (ap (λ (c : Content). c.registered.meters) nothing_held);
        contracts = sym (ap (λ (c : Content). c.registered.contracts) nothing_held);
        reallocations = sym (ap (λ (c : Content). c.registered.reallocations) nothing_held);
        files = sym (ap (λ (c : Content). c.files) nothing_held);
        runs = sym (ap (λ (c : Content). c.runs) nothing_held);
        results = sym (ap (λ (c : Content). c.results) nothing_held);
        credits = sym (ap (λ (c : Content). c.credits) nothing_held);
        postings = sym (ap (λ (c : Content). c.postings) nothing_held);
      };
      in_step = sym agreeing;
    };
    mark = mark_stands;
    beside = (all_still.1.1.1.1.1.1.1.1.1.1.1.1.1.0 (λ e. omega (arith, e)) (λ e. omega (arith, e)), (all_still.1.1.1.1.1.1.1.1.1.1.1.1.1.1.0 (λ e. omega (arith, e)) (λ e. omega (arith, e)), tt));
  }
