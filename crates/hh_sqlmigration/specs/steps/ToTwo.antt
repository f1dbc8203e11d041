-- What the step from version 1 to version 2 makes of an office's database.
use Rattle.std.specs.Prelude.{◌≡◌, ◌≢◌, IsTrue}
use Rattle.std.specs.List.{AllByRecursion}
use Rattle.sqlite.specs.Effect.{Database}
use Rattle.sqlite.specs.State.{State}
use Rattle.hh_rows.specs.declared.settings.Settings.{Settings}
use Rattle.hh_registrations.specs.Registrations.{one_lead_each}
use Rattle.hh_sqltables.specs.Forms.{IsOfficeOf, rows_under_keys}
use Rattle.hh_sqlrows.specs.Holds.{HasSettings}
use Rattle.hh_sqlrows.specs.Leaving.{MayBecome}
use Rattle.hh_sqlrows.specs.Office.{IsOffice}
use Rattle.hh_sqlrows.specs.OfficeSchema.{office_of_one, settings_table, tables_of_one}
use Rattle.hh_sqlrows.specs.OfficeTables.{leads, units}

-- A database of version 1 becomes one of version 2. Its settings are the same, and name version 2. Each unit has one registration, which begins
-- and ends with it and has its lead account. Every other table is as it was.
pub record BecomesTwo (old new : Database) : Type 0 where
  pub from_one : IsOfficeOf office_of_one old
  pub is_office : IsOffice new
  pub kept : Settings
  pub settings_of_one : HasSettings 1 kept old.trees
  pub settings_of_two : HasSettings 2 kept new.trees
  pub leads : rows_under_keys leads new.trees ≡ one_lead_each (rows_under_keys units old.trees)
  pub others : AllByRecursion (λ t. t.tree ≢ settings_table.tree → new.trees t.tree ≡ old.trees t.tree) tables_of_one

-- if the disk has returned what was written, a crash leaves what it would have left before of the open connection, or the last commit as a
-- database of version 2 that the step has made
abbrev pub MayBecomeTwo : State → State → Type 0
MayBecomeTwo = MayBecome BecomesTwo

-- The connection was open and is open, everything is committed, and the step was made.
pub record IsTakenTo (Step : Database → Database → Type 0) (old new : State) : Type 0 where
  pub was_open : IsTrue old.is_open
  pub is_open : IsTrue new.is_open
  pub settled : new.now ≡ new.committed
  pub step : Step old.now new.now
