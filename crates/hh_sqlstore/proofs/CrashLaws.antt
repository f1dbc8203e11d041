-- What a crash may leave of tables whose connection has read something, or was asked to change something.
use Rattle.std.proofs.Common.{◌≡◌, ◌⊎◌, inl, inr, ℕ, ℤ, true, IsTrue, Option, Some, ap, subst, sym}
use Rattle.std.specs.Global.{Vec}
use Rattle.sqlite_schema.specs.declared.schema.Schema.{Schema}
use Rattle.sqlite_trees.specs.declared.store.Store.{Ghosts}
use Rattle.sqlite_trees.specs.Tree.{Trees}
use Rattle.sqlite.specs.Effect.{Database}
use Rattle.sqlite.specs.Held.{Held, state}
use Rattle.sqlite.specs.State.{HasCleanDisk, State}
use Rattle.hh_states.specs.Content.{Content}
use Rattle.hh_states.specs.declared.run_keys.PostingKey.{PostingKey}
use Rattle.hh_store.specs.Crashes.{AddsNothing, AddsOnly, LeavesContent}
use Rattle.hh_sqlrows.specs.Contents.{mark_in, stored_content}
use Rattle.hh_sqlrows.specs.Office.{IsOffice}
use Rattle.hh_sqlrows.specs.OfficeSchema.{office}
use Rattle.hh_sqlchanges.specs.Writes.{StaysOffice}
use Rattle.hh_sqlrows.specs.Reads.{IsHonest, LeavesNoMore}
use Rattle.hh_keyed_rows.specs.Values.{version}
use Rattle.hh_sqlrows.specs.Holds.{Holds, TreesHold}
use Rattle.hh_sqlstore.specs.Stores.{IsHonestDisk, IsIdle, Stored, content_in}
use Rattle.hh_sqlstore.specs.steps.Changed.{MayChange}
use Rattle.hh_sqlstore.proofs.ChangeLaws.{still_holds}

-- if a database contains some content, so do its trees
pub trees_hold : (content : Content) (db : Database) (trees : Trees) → trees ≡ db.trees → Holds version content db → TreesHold trees content
trees_hold content db trees same holds =
    let is : db ≡ record { schema = office; trees = db.trees } = ap (λ (s : Schema). record { schema = s; trees = db.trees }) holds.is_office.schema in
    subst (λ (ts : Trees). TreesHold ts content) (sym same) (subst (λ (d : Database). Holds version content d) is holds)

-- what a crash may leave of tables after a call that changes nothing
abbrev pub TablesAddNothing : {S : Type 0} → Ghosts S → Stored S → Stored S → (Type 0 → Type 0) → Type 0
TablesAddNothing {S} g = AddsNothing (IsHonestDisk g) (λ (s : Stored S). (state g s.connection).is_open) (λ (s : Stored S) trees. (state g s.connection).may_leave trees)

-- and after a call that may make this content
abbrev pub TablesAddOnly : {S : Type 0} → Ghosts S → Stored S → Stored S → (Type 0 → Type 0) → (Content → Type 0) → Type 0
TablesAddOnly {S} g = AddsOnly (IsHonestDisk g) (λ (s : Stored S). (state g s.connection).is_open) (λ (s : Stored S) trees. (state g s.connection).may_leave trees) TreesHold

-- while tables are open, what a crash leaves of them contains their content
pub left_holds : {S : Type 0} (g : Ghosts S) (t : Stored S) {posted : Option (Vec (PostingKey × ℤ))} → IsIdle g t posted
    → ((trees : Trees) → IsTrue (state g t.connection).is_open → (state g t.connection).may_leave trees → trees ≡ (state g t.connection).committed.trees)
    → LeavesContent (λ (s : Stored S). (state g s.connection).is_open) (λ (s : Stored S) trees. (state g s.connection).may_leave trees) TreesHold t (content_in g t)
left_holds g t idle settled stands trees may = trees_hold (content_in g t) (state g t.connection).committed trees (settled trees stands may) (idle.holds stands)

module _ {S : Type 0} (g : Ghosts S) (t : Stored S) {posted : Option (Vec (PostingKey × ℤ))} (idle : IsIdle g t posted) (connection : Held S) (count : ℕ) where
  abbrev after : Stored S
  after = record { connection = connection; settings = t.settings; refusals = count }

  abbrev was : State
  was = state g t.connection

  abbrev is : State
  is = state g connection

  is_office : IsTrue was.is_open → IsOffice was.now
  is_office stands = subst IsOffice (sym (idle.settled stands)) (idle.holds stands).is_office

  -- a reading adds nothing to what a crash may leave
  pub reading_adds_nothing : (If : Type 0 → Type 0) → (IsTrue was.is_open → HasCleanDisk is → If (IsTrue is.is_open)) → IsHonest was is → (IsTrue was.is_open → IsOffice was.now × (was.now ≡ was.committed) → LeavesNoMore was is)
      → (seen : Stored S) → t ≡ seen → TablesAddNothing g seen after If
  reading_adds_nothing If opened honest leaves seen is_seen = subst (λ (s : Stored S). TablesAddNothing g s after If) is_seen (λ clean.
      (honest clean, λ stands. (opened stands clean, λ left may. leaves stands (is_office stands, idle.settled stands) clean left may)))

  -- a crash leaves the content that a change would make, if the database may have been changed like this
  made_by : (Change : Database → Database → Type 0) (Made : Content → Type 0) (stands : IsTrue was.is_open) → ((old new : Database) → Change old new → StaysOffice old new)
      → ((db : Database) → mark_in was.committed.trees ≡ Some true → Change was.committed db → Made (stored_content t.settings db.trees))
      → (trees : Trees) → (db : Database) × Change was.now db × (trees ≡ db.trees) → (content : Content) × TreesHold trees content × Made content
  made_by Change Made stands stays makes trees changed =
      let db = changed.0 in
      let change = subst (λ (from : Database). Change from db) (idle.settled stands) changed.1 in (
        stored_content t.settings db.trees,
        trees_hold _ db trees changed.2 (still_holds t.settings was.committed db (stays was.committed db change) (idle.holds stands)),
        makes db (idle.marked stands) change,
      )

  -- after a change, or one that failed, a crash leaves what it might have left before, or what the change makes
  pub change_adds_only : (If : Type 0 → Type 0) (Change : Database → Database → Type 0) (Made : Content → Type 0) → (HasCleanDisk is → If (IsTrue is.is_open)) → IsHonest was is → MayChange Change was is
      → ((old new : Database) → Change old new → StaysOffice old new)
      → ((db : Database) → mark_in was.committed.trees ≡ Some true → Change was.committed db → Made (stored_content t.settings db.trees)) → TablesAddOnly g t after If Made
  change_adds_only If Change Made opened honest may_change stays makes clean = (
    honest clean,
    λ stands. (
      opened clean,
      λ left may.
          elim (may_change stands (is_office stands) (idle.settled stands) clean left may) [
            | inl before ↦ inl before
            | inr changed ↦ inr (made_by Change Made stands stays makes left changed)
          ],
    ),
  )
