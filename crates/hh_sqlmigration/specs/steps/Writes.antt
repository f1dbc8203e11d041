-- What is written in the transaction of a step.
use Rattle.std.specs.Prelude.{◌≡◌, ◌≢◌, List, []}
use Rattle.std.specs.List.{AllByRecursion}
use Rattle.sqlite.specs.Effect.{Database}
use Rattle.hh_tables.specs.Tables.{put_all}
use Rattle.hh_rows.specs.declared.keys.LeadKey.{LeadKey}
use Rattle.hh_rows.specs.declared.rows.LeadTerm.{LeadTerm}
use Rattle.hh_rows.specs.declared.settings.Settings.{Settings}
use Rattle.hh_sqltables.specs.Forms.{rows_under_keys}
use Rattle.hh_sqlrows.specs.Holds.{HasSettings}
use Rattle.hh_sqlrows.specs.Office.{IsOffice}
use Rattle.hh_sqlrows.specs.OfficeSchema.{settings_table, tables_of_one}
use Rattle.hh_sqlrows.specs.OfficeTables.{leads}

-- There is a table of leads, with these. The settings name version 2. Every other table is as it was.
pub record WritesTwo (entries : List (LeadKey × LeadTerm)) (kept : Settings) (old new : Database) : Type 0 where
  pub is_office : IsOffice new
  pub settings : HasSettings 2 kept new.trees
  pub leads : rows_under_keys leads new.trees ≡ put_all leads.order entries []
  pub others : AllByRecursion (λ t. t.tree ≢ settings_table.tree → new.trees t.tree ≡ old.trees t.tree) tables_of_one
