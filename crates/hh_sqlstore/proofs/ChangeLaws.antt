-- Tables that a transaction has changed, or tried to change, and their content.
use Rattle.std.specs.Prelude.{List, filter_map}
use Rattle.std.proofs.Common.{◌≡◌, ◌∙◌, ◌⊎◌, ◌++◌, inl, inr, ℕ, ℤ, true, false, IsTrue, Option, Some, None, Ok, ap, refl, subst, sym}
use Rattle.std.specs.Global.{Vec}
use Rattle.std.specs.FinMap.{find}
use Rattle.sqlite_trees.specs.declared.store.Store.{Ghosts}
use Rattle.sqlite.specs.Effect.{Database}
use Rattle.sqlite.specs.Held.{Held, state}
use Rattle.sqlite.specs.State.{HasCleanDisk, State, Survives}
use Rattle.sqlite_trees.specs.Tree.{Trees}
use Rattle.hh_rows.specs.declared.settings.Settings.{Settings}
use Rattle.hh_keyed_rows.specs.Values.{version}
use Rattle.hh_states.specs.Content.{Content}
use Rattle.hh_states.specs.declared.run_keys.PostingKey.{PostingKey}
use Rattle.hh_tables.specs.Tables.{put_all}
use Rattle.hh_rows.specs.declared.settlement_period.SettlementPeriod.{SettlementPeriod}
use Rattle.hh_registrations.specs.UnitSteps.{steps_of_rows}
use Rattle.hh_registrations.specs.declared.unit_steps.UnitStep.{UnitStep}
use Rattle.hh_rules.specs.Leads.{registered_units}
use Rattle.hh_rules.specs.Positions.{position_key_cmp}
use Rattle.hh_rules.specs.declared.positions.Position.{Position}
use Rattle.hh_rules.specs.declared.positions.PositionKey.{PositionKey}
use Rattle.hh_states.specs.Changes.{LoadChangeView}
use Rattle.hh_sqlparts.specs.DayLaws.{HaveTheSame}
use Rattle.hh_sqlparts.specs.Keeping.{positions_with, touched_by, touched_by_successions}
use Rattle.hh_sqlrows.specs.Contents.{beside_in, content_of, mark_in, registered_of, stored_content}
use Rattle.hh_sqlrows.specs.Forms.{rows_under_keys}
use Rattle.hh_sqlrows.specs.Office.{IsOffice}
use Rattle.hh_sqlrows.specs.OfficeTables.{leads, one_row_cmp, runs}
use Rattle.hh_sqlrows.specs.Reads.{IsHonest, ReadsSettled}
use Rattle.hh_sqlchanges.specs.Writes.{ChangesByLoad, StaysOffice}
use Rattle.hh_sqlchanges.proofs.BesideLaws.{alike_after_load}
use Rattle.hh_sqlparts.specs.steps.Readings.{SelectsOnly}
use Rattle.hh_sqlparts.proofs.ReadingLaws.{reading_then}
use Rattle.hh_sqlrows.specs.Holds.{Holds}
use Rattle.hh_sqlrows.specs.Leaving.{MayStand}
use Rattle.hh_sqlstore.specs.Stores.{IsIdle, Stored, content_in}
use Rattle.hh_sqlstore.specs.steps.Changed.{OfCommitted, ChangesNothing, IsChangedBy, KeepsLoad, MayChange}
use Rattle.hh_sqlrows.specs.Leaving.{IsUndone}
use Rattle.hh_sqlstore.proofs.ContentLaws.{holds_content}

-- a load that was written is kept, if its steps, positions and touched Settlement Periods are those of its rows
pub load_kept : (w : LoadChangeView) (steps : List UnitStep) (changed : List (PositionKey × Position)) (periods more : List SettlementPeriod) (old new : Database) → ChangesByLoad w steps changed periods old new
    → steps ≡ steps_of_rows w.rows (registered_units (registered_of old.trees))
    → put_all position_key_cmp changed (beside_in old.trees).positions ≡ positions_with w.rows (registered_of old.trees).contracts (beside_in old.trees).positions
    → more ≡ touched_by_successions w.rows (rows_under_keys leads old.trees) (rows_under_keys runs old.trees) → HaveTheSame periods (more ++ filter_map touched_by w.rows)
    → KeepsLoad w old new
load_kept w steps changed periods more old new written are positions held touched = (
  record { stays = written.stores.stays; content = written.stores.content are },
  λ kept. alike_after_load w (content_of kept old.trees) steps changed periods old new written positions
      (subst (λ (ps : List SettlementPeriod). HaveTheSame periods (ps ++ filter_map touched_by w.rows)) held touched),
)

-- a transaction that was undone has only read
pub reading_of_undone : (old new : State) → (IsTrue new.is_open → HasCleanDisk new) → IsUndone old new → SelectsOnly old new
reading_of_undone old new clean undone = record {
  stood = λ stands. (undone (clean stands) stands).0;
  left = λ stands office settled. let kept = undone (clean stands) stands in (kept.1, kept.2);
}

-- a call that changed nothing has only read
pub reading_of_nothing : (old new : State) → (IsTrue new.is_open → HasCleanDisk new) → ChangesNothing old new → SelectsOnly old new
reading_of_nothing old new clean nothing = record {
  stood = λ stands. (nothing (clean stands)).stood stands;
  left = λ stands. (nothing (clean stands)).left stands;
}

-- the tables of an office that is still one, with its settings, contain their content
pub still_holds : (kept : Settings) (old new : Database) → StaysOffice old new → Holds version (stored_content kept old.trees) old → Holds version (stored_content kept new.trees) new
still_holds kept old new stays holds = holds_content kept new stays.is_office (ap (find one_row_cmp (record {})) stays.settings ∙ holds.settings)

module _ {S : Type 0} (g : Ghosts S) (t : Stored S) {posted : Option (Vec (PostingKey × ℤ))} (idle : IsIdle g t posted) (connection : Held S) (count : ℕ) (Change : Database → Database → Type 0)
    (changed : IsTrue (state g connection).is_open → IsChangedBy Change (state g t.connection) (state g connection)) where
  abbrev after : Stored S
  after = record { connection = connection; settings = t.settings; refusals = count }

  abbrev was : State
  was = state g t.connection

  abbrev is : State
  is = state g connection

  committed : IsTrue is.is_open → Change was.committed is.committed
  committed stands =
      let settled = idle.settled (changed stands).was_open in
      let office = subst IsOffice (sym settled) (idle.holds (changed stands).was_open).is_office in
      subst (λ (db : Database). Change db is.committed) settled (subst (Change was.now) (changed stands).settled ((changed stands).changed office))

  -- the content is what the change makes
  pub content_changed : IsTrue is.is_open → (f : Content → Content)
      → (mark_in was.committed.trees ≡ Some true → Change was.committed is.committed → stored_content t.settings is.committed.trees ≡ f (stored_content t.settings was.committed.trees))
      → content_in g after ≡ f (content_in g t)
  content_changed stands f makes = makes (idle.marked (changed stands).was_open) (committed stands)

  -- no transaction is under way afterwards, as before, and no postings are in memory
  pub idle_changed : ((old new : Database) → Change old new → StaysOffice old new) → connection.in_transaction ≡ false → IsIdle g after None
  idle_changed stays mode = record {
    autocommit = mode;
    settled = λ stands. (changed stands).settled;
    holds = λ stands. still_holds t.settings was.committed is.committed (stays _ _ (committed stands)) (idle.holds (changed stands).was_open);
    marked = λ stands. ap (find one_row_cmp (record {})) (stays _ _ (committed stands)).mark ∙ idle.marked (changed stands).was_open;
    at_hand = λ stands. tt;
  }

-- ---- one change and what it makes of what is kept beside the content

-- a change is also any change that follows from it
pub changed_so : {Change Other : Database → Database → Type 0} (old new : State) → (IsOffice old.now → Change old.now new.now → Other old.now new.now) → IsChangedBy Change old new → IsChangedBy Other old new
changed_so old new follows changed = record {
  was_open = changed.was_open;
  is_open = changed.is_open;
  settled = changed.settled;
  changed = λ office. follows office (changed.changed office);
}

-- what is undone changes nothing
pub nothing_of_undone : (old new : State) → IsUndone old new → ChangesNothing old new
nothing_of_undone old new undone clean = reading_of_undone old new (λ stands. clean) undone

-- nor does a transaction that was undone after a reading, if the disk has returned what was written
pub nothing_after : (old mid new : State) → SelectsOnly old mid → IsUndone mid new → ChangesNothing old new
nothing_after old mid new reading undone clean = reading_then old mid new reading (reading_of_undone mid new (λ stands. clean) undone)

-- ---- what a crash may leave of a change

-- if the trees may be those of a database of the one kind, they may be those of a database of the other kind
stand_so : {A : Type 0} (P Q : Database → Type 0) → ((db : Database) → P db → Q db) → (trees : Trees) → A ⊎ MayStand P trees → A ⊎ MayStand Q trees
stand_so P Q follows trees (inl before) = inl before
stand_so P Q follows trees (inr (db, p, is)) = inr (db, follows db p, is)

-- if a change may have been made, so may any change that follows from it
pub may_change_so : (Change Other : Database → Database → Type 0) (old new : State) → (IsOffice old.now → Survives old new (MayStand (Change old.now)))
    → ((db : Database) → Change old.now db → Other old.now db) → MayChange Other old new
may_change_so Change Other old new survives follows stands is settled clean trees may =
    stand_so (Change old.now) (Other old.now) follows trees ((survives is).crash clean trees may)

-- the same after a reading that was answered, from which it follows
pub may_change_after : {X E : Type 0} (Change Other : Database → Database → Type 0) (old mid new : State) (x : X) → ReadsSettled {X = X} {E = E} old mid (Ok x) → IsHonest mid new
    → (IsOffice mid.now → Survives mid new (MayStand (Change mid.now)))
    → (IsTrue mid.is_open → OfCommitted old ((db : Database) → Change old.now db → Other old.now db)) → MayChange Other old new
may_change_after Change Other old mid new x read honest survives follows stands is settled clean trees may =
    let before = honest clean in
    let still = read.stays stands before in
    let kept = read.left still (is, settled) settled in
    let was : IsOffice mid.now = subst IsOffice (sym kept.0) is in
    either (stand_so (Change mid.now) (Other old.now) (λ db change. follows still is settled db (subst (λ (d : Database). Change d db) kept.0 change)) trees ((survives was).crash clean trees may))
  where
    either : mid.may_leave trees ⊎ MayStand (Other old.now) trees → old.may_leave trees ⊎ MayStand (Other old.now) trees
    either (inl left) = inl (read.crash stands (is, settled) (honest clean) trees left)
    either (inr changed) = inr changed
