-- What an office's database contains, by the version of its tables.
use Rattle.std.specs.Prelude.{◌≡◌, ◌≤◌, ℕ, zero, suc, [], ◌∷◌, true, map, Some}
use Rattle.std.specs.FinMap.{find}
use Rattle.sqlite_schema.specs.declared.schema.Schema.{Schema}
use Rattle.sqlite_trees.specs.Tree.{Trees}
use Rattle.sqlite.specs.Effect.{Database}
use Rattle.hh_rows.specs.declared.settings.Settings.{Settings}
use Rattle.hh_registrations.specs.Registrations.{Leads, one_lead_each}
use Rattle.hh_keyed_rows.specs.Content.{Content, empty_content}
use Rattle.hh_keyed_rows.specs.Values.{settings_columns_of, version}
use Rattle.hh_keyed_rows.specs.declared.one_row.OneRow.{OneRow}
use Rattle.hh_sqltables.specs.Forms.{AreEmpty, IsOfficeOf, TableForm, rows_under_keys}
use Rattle.hh_sqlrows.specs.OfficeSchema.{nothing, office, office_of_one, positions_table, touched_table}
use Rattle.hh_sqlrows.specs.OfficeTables.{contracts, credits, files, leads, meters, one_row_cmp, parties, period_prices, postings, reallocations, references, results, runs, settings, units}
use Rattle.hh_sqlrows.specs.Contents.{is_in_step_in, mark_in, result_of}

-- the schema of a version, from version 1 to the present one; another number is that of no version
abbrev pub schema_of : ℕ → Schema
schema_of (suc zero) = office_of_one
schema_of (suc (suc zero)) = office
schema_of number = nothing

-- the table of the settings, whose row names the version
abbrev pub settings_of : ℕ → TableForm OneRow Settings
settings_of number = record settings { value = settings_columns_of number }

-- the settings are in their table, whose row names this version
abbrev pub HasSettings : ℕ → Settings → Trees → Type 0
HasSettings number kept trees = find one_row_cmp (record {}) (rows_under_keys (settings_of number) trees) ≡ Some kept

-- The registrations of units that the tables of a version contain. In version 1 each unit had one, which its own row made.
abbrev pub leads_by : ℕ → Trees → Leads
leads_by (suc zero) trees = one_lead_each (rows_under_keys units trees)
leads_by number trees = rows_under_keys leads trees

-- The tables that are the same in all versions contain the content.
pub record HoldsAlike (content : Content) (trees : Trees) : Type 0 where
  pub parties : content.registered.parties ≡ rows_under_keys parties trees
  pub units : content.registered.units ≡ rows_under_keys units trees
  pub references : content.registered.references ≡ rows_under_keys references trees
  pub meters : content.registered.meters ≡ rows_under_keys meters trees
  pub contracts : content.registered.contracts ≡ rows_under_keys contracts trees
  pub reallocations : content.registered.reallocations ≡ rows_under_keys reallocations trees
  pub files : content.files ≡ rows_under_keys files trees
  pub runs : content.runs ≡ rows_under_keys runs trees
  pub results : content.results ≡ map result_of (rows_under_keys results trees)
  pub credits : content.credits ≡ rows_under_keys credits trees
  pub postings : content.postings ≡ rows_under_keys postings trees

-- The tables of a version contain the content, and what is kept beside them agrees with it if the content says so. Versions may differ in
-- their tables, in the row of the settings, which names the version, and in how registrations of units and prices are kept.
pub record Holds (number : ℕ) (content : Content) (db : Database) : Type 0 where
  pub of_version : (1 ≤ number) × (number ≤ version)
  pub is_office : IsOfficeOf (schema_of number) db
  pub settings : HasSettings number content.settings db.trees
  pub leads : content.registered.leads ≡ leads_by number db.trees
  pub prices : content.registered.prices ≡ rows_under_keys period_prices db.trees
  pub alike : HoldsAlike content db.trees
  pub in_step : content.is_in_step ≡ is_in_step_in content db.trees

-- the trees are those of an office's database of a version, which contains the content
abbrev pub TreesHoldAs : ℕ → Trees → Content → Type 0
TreesHoldAs number trees content = Holds number content (record { schema = schema_of number; trees = trees })

-- those of one of the present version
abbrev pub TreesHold : Trees → Content → Type 0
TreesHold = TreesHoldAs version

-- The database was just made: nothing has been accepted, positions are kept but there are none, and no Settlement Period was touched.
pub record IsNewOffice (kept : Settings) (db : Database) : Type 0 where
  pub holds : Holds version (empty_content kept) db
  pub mark : mark_in db.trees ≡ Some true
  pub beside : AreEmpty (positions_table ∷ touched_table ∷ []) db.trees
