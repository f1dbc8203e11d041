-- A database that a transaction has changed, as its connection sees it.
use Rattle.std.specs.Prelude.{◌≡◌, ◌⊎◌, IsTrue}
use Rattle.sqlite.specs.Effect.{Database}
use Rattle.sqlite.specs.State.{HasCleanDisk, State}
use Rattle.sqlite_trees.specs.Tree.{Trees}
use Rattle.hh_rows.specs.declared.settings.Settings.{Settings}
use Rattle.hh_states.specs.Changes.{LoadChangeView, RunChangeView}
use Rattle.hh_sqlparts.specs.Keeping.{beside_with_load, beside_with_run}
use Rattle.hh_sqlparts.specs.Laws.{AreAlike}
use Rattle.hh_sqlrows.specs.Contents.{beside_in, content_of}
use Rattle.hh_sqlrows.specs.Office.{IsOffice}
use Rattle.hh_sqlchanges.specs.Writes.{StoresLoad, StoresRun}
use Rattle.hh_sqlparts.specs.steps.Readings.{SelectsOnly}
use Rattle.hh_sqlrows.specs.Leaving.{MayStand}
pub use Rattle.hh_sqlrows.specs.steps.Changed.{IsChangedBy}

-- a load is written, and what is kept beside the content is changed for it
abbrev pub KeepsLoad : LoadChangeView → Database → Database → Type 0
KeepsLoad w old new =
    StoresLoad w old new × ((kept : Settings) → AreAlike (beside_in new.trees) (beside_with_load w (content_of kept old.trees) (beside_in old.trees)))

-- a run is written, and what is kept beside the content is changed for it
abbrev pub KeepsRun : RunChangeView → Database → Database → Type 0
KeepsRun w old new = StoresRun w old new × AreAlike (beside_in new.trees) (beside_with_run w (beside_in old.trees))

-- nothing was changed, if the disk has returned what was written
abbrev pub ChangesNothing : State → State → Type 0
ChangesNothing old new = HasCleanDisk new → SelectsOnly old new

-- `P` holds for an office with everything committed
abbrev pub OfCommitted : State → Type 0 → Type 0
OfCommitted old P = IsOffice old.now → old.now ≡ old.committed → P

-- If the disk has returned what was written, and an office was in an open connection with everything committed, a crash leaves what it
-- would have left before, or that office with such a change.
abbrev pub MayChange : (Database → Database → Type 0) → State → State → Type 0
MayChange Change old new =
    IsTrue old.is_open → OfCommitted old (HasCleanDisk new → (trees : Trees) → new.may_leave trees
    → old.may_leave trees ⊎ MayStand (Change old.now) trees)
