-- What writing a load or a run makes of an office's database.
use Rattle.std.specs.Prelude.{◌≡◌, ◌==◌, List, ◌++◌, filter, not, true, Some}
use Rattle.sqlite.specs.Effect.{Database}
use Rattle.hh_tables.specs.Tables.{put_all}
use Rattle.hh_rows.specs.declared.settings.Settings.{Settings}
use Rattle.hh_rows.specs.declared.settlement_period.SettlementPeriod.{SettlementPeriod}
use Rattle.hh_rules.specs.Positions.{position_key_cmp}
use Rattle.hh_rules.specs.declared.positions.Position.{Position}
use Rattle.hh_rules.specs.declared.positions.PositionKey.{PositionKey}
use Rattle.hh_registrations.specs.UnitSteps.{steps_of_rows}
use Rattle.hh_registrations.specs.declared.unit_steps.UnitStep.{UnitStep}
use Rattle.hh_rules.specs.Leads.{registered_units}
use Rattle.hh_states.specs.Changes.{LoadChangeView, RunChangeView, effect_of_load, effect_of_run}
use Rattle.hh_beside.specs.DayLaws.{HaveTheSame}
use Rattle.hh_sqlrows.specs.Contents.{beside_in, content_of, mark_in, registered_of}
use Rattle.hh_sqlrows.specs.Forms.{rows_under_keys}
use Rattle.hh_sqlrows.specs.Office.{IsOffice}
use Rattle.hh_sqlrows.specs.OfficeTables as forms
use Rattle.hh_sqlchanges.specs.OwnAccounts.{AreOfTheirAccounts}

-- The database is still an office's, with the same settings and the same mark.
pub record StaysOffice (old new : Database) : Type 0 where
  pub is_office : IsOffice new
  pub settings : rows_under_keys forms.settings new.trees ≡ rows_under_keys forms.settings old.trees
  pub mark : rows_under_keys forms.marks new.trees ≡ rows_under_keys forms.marks old.trees

-- The load is written: the content is the content after the load.
pub record StoresLoad (w : LoadChangeView) (old new : Database) : Type 0 where
  pub stays : StaysOffice old new
  pub content : (kept : Settings) → content_of kept new.trees ≡ effect_of_load w (content_of kept old.trees)

-- The load is written with these steps in the tables of units and of registrations: the content is the content after the load, if they are those of its rows.
pub record StoresLoadBy (w : LoadChangeView) (steps : List UnitStep) (old new : Database) : Type 0 where
  pub stays : StaysOffice old new
  pub content : steps ≡ steps_of_rows w.rows (registered_units (registered_of old.trees))
      → (kept : Settings) → content_of kept new.trees ≡ effect_of_load w (content_of kept old.trees)

-- The run is written: the content is the content after the run, if each of the run's rows is for the account that its key names.
pub record StoresRun (w : RunChangeView) (old new : Database) : Type 0 where
  pub stays : StaysOffice old new
  pub content : AreOfTheirAccounts w.results
      → (kept : Settings) → content_of kept new.trees ≡ effect_of_run w (content_of kept old.trees)

-- The load is written. Beside the content, these positions replace those with their keys, and these Settlement Periods are touched as well
-- as those that were.
pub record ChangesByLoad (w : LoadChangeView) (steps : List UnitStep) (changed : List (PositionKey × Position))
    (periods : List SettlementPeriod) (old new : Database) : Type 0 where
  pub stores : StoresLoadBy w steps old new
  pub positions : (beside_in new.trees).positions ≡ put_all position_key_cmp changed (beside_in old.trees).positions
  pub touched : HaveTheSame (beside_in new.trees).touched (periods ++ (beside_in old.trees).touched)

-- The run is written. Beside the content, the positions are as they were, and no Settlement Period of the run's date is touched any more.
pub record ChangesByRun (w : RunChangeView) (old new : Database) : Type 0 where
  pub stores : StoresRun w old new
  pub positions : (beside_in new.trees).positions ≡ (beside_in old.trees).positions
  pub touched : (beside_in new.trees).touched ≡ filter (λ at. not (at.date == w.key.date)) (beside_in old.trees).touched

-- These positions and these touched Settlement Periods are written beside the content. The content is as it was, and the mark says that
-- they are kept.
pub record WritesBesideAnew (changed : List (PositionKey × Position)) (periods : List SettlementPeriod) (old new : Database) : Type 0 where
  pub is_office : IsOffice new
  pub settings : rows_under_keys forms.settings new.trees ≡ rows_under_keys forms.settings old.trees
  pub content : (kept : Settings) → content_of kept new.trees ≡ content_of kept old.trees
  pub positions : (beside_in new.trees).positions ≡ put_all position_key_cmp changed (beside_in old.trees).positions
  pub touched : HaveTheSame (beside_in new.trees).touched (periods ++ (beside_in old.trees).touched)
  pub mark : mark_in new.trees ≡ Some true
