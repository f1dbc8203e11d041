-- What one step of writing makes of the content, and of what is kept beside it.
use Rattle.std.specs.Prelude.{◌≡◌, Bool, true, false, List, ◌++◌}
use Rattle.hh_tables.specs.Tables.{put_all}
use Rattle.sqlite.specs.Effect.{Database}
use Rattle.hh_rows.specs.declared.settings.Settings.{Settings}
use Rattle.hh_rows.specs.declared.settlement_period.SettlementPeriod.{SettlementPeriod}
use Rattle.hh_rules.specs.Positions.{position_key_cmp}
use Rattle.hh_rules.specs.declared.positions.Position.{Position}
use Rattle.hh_rules.specs.declared.positions.PositionKey.{PositionKey}
use Rattle.hh_registrations.specs.declared.unit_steps.UnitStep.{UnitStep}
use Rattle.hh_states.specs.Changes.{LoadChangeView, RunChangeView}
use Rattle.hh_states.specs.Content.{Content}
use Rattle.hh_beside.specs.DayLaws.{HaveTheSame}
use Rattle.hh_sqlrows.specs.Contents.{beside_in, content_of}
use Rattle.hh_sqlrows.specs.no_columns.NoColumns.{NoColumns}
use Rattle.hh_sqlchanges.specs.Writes.{StaysOffice, StoresLoadBy, StoresRun}

-- The database is still an office's with the same settings and mark. Its content is what `effect` makes of it, and nothing else changed.
pub record Becomes (effect : Content → Content) (old new : Database) : Type 0 where
  pub stays : StaysOffice old new
  pub content : (kept : Settings) → content_of kept new.trees ≡ effect (content_of kept old.trees)
  pub beside : beside_in new.trees ≡ beside_in old.trees

-- the content becomes what this makes of it, or the database is as it was
abbrev pub BecomesOrLeaves : (Content → Content) → Database → Database → Bool → Type 0
BecomesOrLeaves effect old new true = Becomes effect old new
BecomesOrLeaves effect old new false = new ≡ old

-- The rows of a load and these steps in the tables of units and of registrations are written, and nothing else changed.
pub record StoresLoadAlone (w : LoadChangeView) (steps : List UnitStep) (old new : Database) : Type 0 where
  pub stores : StoresLoadBy w steps old new
  pub beside : beside_in new.trees ≡ beside_in old.trees

-- The rows of a run are written, and nothing else changed.
pub record StoresRunAlone (w : RunChangeView) (old new : Database) : Type 0 where
  pub stores : StoresRun w old new
  pub beside : beside_in new.trees ≡ beside_in old.trees

-- a Settlement Period as a row without other columns
abbrev pub touched_entry : SettlementPeriod → SettlementPeriod × NoColumns
touched_entry at = (at, record {})

-- The content is as it was. These positions and these touched Settlement Periods are added to what is kept beside it.
pub record WritesBeside (changed : List (PositionKey × Position)) (periods : List SettlementPeriod) (old new : Database) : Type 0 where
  pub stays : StaysOffice old new
  pub content : (kept : Settings) → content_of kept new.trees ≡ content_of kept old.trees
  pub positions : (beside_in new.trees).positions ≡ put_all position_key_cmp changed (beside_in old.trees).positions
  pub touched : HaveTheSame (beside_in new.trees).touched (periods ++ (beside_in old.trees).touched)
